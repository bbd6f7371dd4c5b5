-- Which numbers a refusal can have that arises while a body is read, and that it has a place there: one law for each combinator and each single field, and so for the header, the prefix and the parameter sets.
use Prim.Native.Nat.{ℕ, zero, suc, ◌+◌}
use mathlib.Core.Path.{◌≡◌, refl}
use mathlib.Core.List.{[], ◌∷◌}
use mathlib.Core.Bool.{Bool, true, false, not}
use lib.Dec.{T, leb, eqb}
use lib.IntN.{ℤ, pos}
use lib.ListN.{length, drop}
use Rattle.bits.specs.Refusals.{Res, got, no, bind, pick}
use Rattle.bits.specs.Bits.{Bits}
use Rattle.bits.specs.declared.refusals.Refusal.{Refusal}
use Rattle.bits.specs.Codes.{width_of, fixed_at, suffix_at, code_at, ue_at}
use Rattle.fmt.specs.Fmt.{Fmt, nothing, seq, shaped, test, when, times, until}
use Rattle.fmt.specs.Leaves.{flag, u, ue, se}
use Rattle.table.specs.declared.table.Table.{Table}
use Rattle.syntax.specs.declared.context.UnitKind.{UnitKind}
use Rattle.syntax.specs.declared.context.PrefixKind.{PrefixKind}
use Rattle.syntax.specs.declared.context.Context.{Context}
use Rattle.syntax.specs.Marks.{is_zero, is_zero_z, number_if, signed_if, flag_if, given}
use Rattle.syntax.specs.Lists.{Kind, entries, no_operations, is_no_operations, code, operands, operations, operations_if}
use Rattle.syntax.specs.Context.{context_for}
use Rattle.syntax.specs.SliceHeader.{slice_type, picture_set_id, lead, frame, deltas, order_count, active_minus1, active_counts, modification, modification_kind, not_scalable, modifications, weight, weight_list, pred_weight_table, marking_kind, dec_ref_pic_marking, quantiser, filter, parts, header, any_set, read_header}
use Rattle.syntax.specs.Prefix.{base_marking_kind, prefix}
use Rattle.parameter_sets.specs.SequenceSet.{sequence_set}
use Rattle.parameter_sets.specs.PictureSet.{picture_set}
use Rattle.parameter_sets.proofs.Gives.{Allows, Ends}
use Rattle.parameter_sets.proofs.SequenceKnown.{sequence-gives}
use Rattle.parameter_sets.proofs.PictureKnown.{picture-gives}
use Rattle.promises.specs.Demands.{one_of, read_numbers, body_numbers}

-- a number that reading gives; where it is given in a body, with a bit place
abbrev pub Placed : Bool → ℕ → Type 0
Placed there n = T (one_of read_numbers n) × (there ≡ one_of body_numbers n)

-- a refusal that arises in a body
abbrev pub InBody : Refusal → Type 0
InBody r = (r.has_bit ≡ true) × Placed true r.number

-- a value, or such a refusal
abbrev pub Known : {A : Type 0} → Res A → Type 0
Known (got a e) = Unit {0}
Known (no r) = InBody r

after : {A B : Type 0} (m : Res A) (k : A → ℕ → Res B) → Known m → ((a : A) (e : ℕ) → Known (k a e)) → Known (bind m k)
after (got a e) k h f = f a e
after (no r) k h f = h

by-test : {A : Type 0} (b : Bool) (x y : Res A) → Known x → Known y → Known (pick b x y)
by-test true x y h g = h
by-test false x y h g = g

pub record Gives {A : Type 0} (F : Fmt A) : Type 0 where
  pub known : (s : Bits) (at : ℕ) → Known (F.read s at)

-- ---- single fields

fixed-known : (n : ℕ) (s : Bits) (p : ℕ) → Known (fixed_at n s p)
unfolding fixed_at
fixed-known n s p = by-test (leb (p + n) (length s)) _ _ tt (refl, (tt, refl))

suffix-known : (z : ℕ) (l : Bits) (p : ℕ) → Known (suffix_at z l p)
unfolding suffix_at
suffix-known z l p = by-test (leb z (length l)) _ _ tt (refl, (tt, refl))

code-known : (n z : ℕ) (l : Bits) (p : ℕ) → Known (code_at n z l p)
unfolding code_at
code-known zero z l p = (refl, (tt, refl))
code-known (suc n) z [] p = (refl, (tt, refl))
code-known (suc n) z (false ∷ l) p = code-known n (suc z) l p
code-known (suc n) z (true ∷ l) p = suffix-known z l p

ue-known : (s : Bits) (p : ℕ) → Known (ue_at s p)
unfolding ue_at
ue-known s p = code-known 32 0 (drop p s) p

pub u-gives : (n : ℕ) → Gives (u n)
unfolding u
u-gives n = record { known = λ s at. fixed-known (width_of n) s at }

pub flag-gives : Gives flag
unfolding flag
flag-gives = record { known = λ s at. after (fixed_at (width_of 1) s at) _ (fixed-known (width_of 1) s at) (λ v e. tt) }

pub ue-gives : Gives ue
unfolding ue
ue-gives = record { known = ue-known }

pub se-gives : Gives se
unfolding se
se-gives = record { known = λ s at. after (ue_at s at) _ (ue-known s at) (λ k e. tt) }

-- ---- combinators

pub nothing-gives : Gives nothing
unfolding nothing
nothing-gives = record { known = λ s at. tt }

pub seq-gives : {A B : Type 0} (F : Fmt A) (G : A → Fmt B) → Gives F → ((a : A) → Gives (G a)) → Gives (seq F G)
unfolding seq
seq-gives F G f g = record { known = λ s at. after (F.read s at) _ (f.known s at) (λ a e. after ((G a).read s e) _ ((g a).known s e) (λ b d. tt)) }

pub shaped-gives : {A B : Type 0} (to : A → B) (from : B → A) (ok : B → Bool) (F : Fmt A) → Gives F → Gives (shaped to from ok F)
unfolding shaped
shaped-gives to from ok F f = record { known = λ s at. after (F.read s at) _ (f.known s at) (λ a e. tt) }

pub test-gives : {A : Type 0} (ok : A → Bool) (n : ℕ) (value : A → ℤ) (F : Fmt A) → Placed true n → Gives F → Gives (test ok n value F)
unfolding test
test-gives ok n value F h f = record { known = λ s at. after (F.read s at) _ (f.known s at) (λ a e. by-test (ok a) _ _ tt (refl, h)) }

pub when-gives : {A : Type 0} (b : Bool) (z : A) (isz : A → Bool) (F : Fmt A) → Gives F → Gives (when b z isz F)
unfolding when
when-gives b z isz F f = record { known = λ s at. by-test b _ _ (after (F.read s at) _ (f.known s at) (λ a e. tt)) tt }

pub times-gives : {A : Type 0} (F : Fmt A) → Gives F → (n : ℕ) → Gives (times n F)
unfolding times
times-gives F f zero = record { known = λ s at. tt }
times-gives F f (suc n) =
    let g = times-gives F f n in
    record { known = λ s at. after (F.read s at) _ (f.known s at) (λ a e. after ((times n F).read s e) _ (g.known s e) (λ l d. tt)) }

pub until-gives : {A : Type 0} (C : Fmt ℕ) (close : ℕ) (G : ℕ → Fmt A) → Gives C → ((c : ℕ) → Gives (G c)) → (n : ℕ) → Gives (until C close G n)
unfolding until
until-gives C close G f g zero = record { known = λ s at. after (C.read s at) _ (f.known s at) (λ c e. by-test (eqb c close) _ _ tt (refl, (tt, refl))) }
until-gives C close G f g (suc n) =
    let r = until-gives C close G f g n in
    record {
      known = λ s at.
          after (C.read s at) _ (f.known s at)
          (λ c e.
          by-test (eqb c close) _ _ tt
          (after ((G c).read s e) _ ((g c).known s e) (λ a d. after ((until C close G n).read s d) _ (r.known s d) (λ l i. tt))));
    }

-- ---- fields that may be absent

module _ (b : Bool) where
  pub number_if-gives : (F : Fmt ℕ) → Gives F → Gives (number_if b F)
  unfolding number_if
  number_if-gives F f = shaped-gives _ _ _ (when b 0 is_zero F) (when-gives b 0 is_zero F f)

  pub signed_if-gives : (F : Fmt ℤ) → Gives F → Gives (signed_if b F)
  unfolding signed_if
  signed_if-gives F f = shaped-gives _ _ _ (when b (pos 0) is_zero_z F) (when-gives b (pos 0) is_zero_z F f)

  pub flag_if-gives : Gives (flag_if b)
  unfolding flag_if
  flag_if-gives = shaped-gives _ _ _ (when b false not flag) (when-gives b false not flag flag-gives)

  pub given-gives : {A : Type 0} (z : A) (isz : A → Bool) (F : Fmt A) → Gives F → Gives (given b z isz F)
  unfolding given
  given-gives z isz F f = shaped-gives _ _ _ (when b z isz F) (when-gives b z isz F f)

pub operations_if-gives : (b : Bool) (k : Kind) → Placed true k.number → Gives (operations_if b k)
unfolding operations_if operations code operands
operations_if-gives b k h =
    let operand : (there : Bool) → Gives (given there 0 is_zero ue) = λ there. given-gives there 0 is_zero ue ue-gives in
    given-gives b no_operations is_no_operations _
    (shaped-gives _ _ _ _ (until-gives _ _ _ (test-gives _ _ _ _ h ue-gives) (λ c. seq-gives _ _ (operand _) (λ a. operand _)) entries))

-- ---- the header's parts

pub then : {A B : Type 0} {F : Fmt A} {G : A → Fmt B} → Gives F → ((a : A) → Gives (G a)) → Gives (seq F G)
then {F = F} {G} = seq-gives F G

pub lead-gives : (t : Table) → Gives (lead t)
unfolding lead slice_type picture_set_id
lead-gives t = then ue-gives (λ v. then (test-gives _ 7 _ _ (tt, refl) ue-gives) (λ k. test-gives _ 10 _ _ (tt, refl) (test-gives _ 9 _ _ (tt, refl) (test-gives _ 8 _ _ (tt, refl) ue-gives))))

pub frame-gives : (x : Context) → Gives (frame x)
unfolding frame
frame-gives x =
    shaped-gives _ _ _ _
    (then (number_if-gives _ _ (test-gives _ 11 _ _ (tt, refl) (u-gives 2))) (λ plane.
    then (u-gives _) (λ num.
    then (flag_if-gives _) (λ field.
    then (flag_if-gives _) (λ bottom.
    number_if-gives _ _ ue-gives)))))

pub order_count-gives : (x : Context) (field : Bool) → Gives (order_count x field)
unfolding order_count deltas
order_count-gives x field =
    shaped-gives _ _ _ _
    (then (number_if-gives _ _ (u-gives _)) (λ lsb.
    then (signed_if-gives _ _ se-gives) (λ bottom.
    then (shaped-gives _ _ _ _ (then (given-gives _ _ _ _ se-gives) (λ first. given-gives _ _ _ _ se-gives))) (λ deltas.
    number_if-gives _ _ ue-gives))))

pub active_counts-gives : (k : ℕ) → Gives (active_counts k)
unfolding active_counts active_minus1
active_counts-gives k =
    shaped-gives _ _ _ _
    (then (flag_if-gives _) (λ direct.
    then (flag_if-gives _) (λ override.
    then (number_if-gives _ _ (test-gives _ 21 _ _ (tt, refl) ue-gives)) (λ l0.
    number_if-gives _ _ (test-gives _ 21 _ _ (tt, refl) ue-gives)))))

pub modifications-gives : (x : Context) (k : ℕ) → Gives (modifications x k)
unfolding modifications not_scalable modification
modifications-gives x k =
    let one : (there : Bool) → Gives (modification x.kind.mvc there)
    = λ there. shaped-gives _ _ _ _ (then (flag_if-gives _) (λ flag. operations_if-gives _ (modification_kind x.kind.mvc) (tt, refl))) in
    shaped-gives _ _ _ _ (then (test-gives _ 13 _ _ (tt, refl) nothing-gives) (λ v. then (one _) (λ l0. one _)))

weight-gives : (chroma : Bool) → Gives (weight chroma)
unfolding weight
weight-gives chroma =
    let number : (b : Bool) → Gives (given b (pos 0) is_zero_z se) = λ b. given-gives b (pos 0) is_zero_z se se-gives in
    shaped-gives _ _ _ _
    (then flag-gives (λ luma.
    then (number _) (λ luma-weight.
    then (number _) (λ luma-offset.
    then (given-gives _ _ _ _ flag-gives) (λ c.
    then (number _) (λ cb-weight.
    then (number _) (λ cb-offset.
    then (number _) (λ cr-weight.
    number _))))))))

weight_list-gives : (chroma : Bool) (n : ℕ) → Gives (weight_list chroma n)
unfolding weight_list
weight_list-gives chroma n = shaped-gives _ _ _ _ (times-gives _ (weight-gives chroma) n)

pub pred_weight_table-gives : (x : Context) (k n0 n1 : ℕ) → Gives (pred_weight_table x k n0 n1)
unfolding pred_weight_table
pred_weight_table-gives x k n0 n1 =
    shaped-gives _ _ _ _
    (then (when-gives _ _ _ _ ue-gives) (λ luma.
    then (number_if-gives _ _ ue-gives) (λ chroma.
    then (weight_list-gives _ _) (λ l0.
    weight_list-gives _ _))))

pub marking-gives : (x : Context) → Gives (dec_ref_pic_marking x)
unfolding dec_ref_pic_marking
marking-gives x =
    shaped-gives _ _ _ _
    (then (flag_if-gives _) (λ prior.
    then (flag_if-gives _) (λ long.
    then (flag_if-gives _) (λ adaptive.
    operations_if-gives _ marking_kind (tt, refl)))))

pub quantiser-gives : (x : Context) (k : ℕ) → Gives (quantiser x k)
unfolding quantiser
quantiser-gives x k =
    shaped-gives _ _ _ _
    (then (number_if-gives _ _ ue-gives) (λ cabac.
    then (test-gives _ 16 _ _ (tt, refl) se-gives) (λ qp.
    then (flag_if-gives _) (λ sp.
    signed_if-gives _ _ (test-gives _ 17 _ _ (tt, refl) se-gives)))))

pub filter-gives : (x : Context) → Gives (filter x)
unfolding filter
filter-gives x =
    shaped-gives _ _ _ _
    (then (number_if-gives _ _ (test-gives _ 18 _ _ (tt, refl) ue-gives)) (λ idc.
    then (signed_if-gives _ _ (test-gives _ 19 _ _ (tt, refl) se-gives)) (λ alpha.
    then (signed_if-gives _ _ (test-gives _ 20 _ _ (tt, refl) se-gives)) (λ beta.
    number_if-gives _ _ (u-gives _)))))

-- ---- the header, and the prefix

pub header-gives : (t : Table) (n : UnitKind) → Gives (header t n)
unfolding header parts
header-gives t n =
    shaped-gives _ _ _ _
    (then (lead-gives t) (λ l.
    let x = context_for t n l.1.1 in
    then (frame-gives x) (λ f.
    then (order_count-gives x _) (λ o.
    then (active_counts-gives _) (λ a.
    then (modifications-gives x _) (λ m.
    then (pred_weight_table-gives x _ _ _) (λ w.
    then (marking-gives x) (λ d.
    then (quantiser-gives x _) (λ q.
    filter-gives x)))))))))

pub header-known : (t : Table) (n : UnitKind) (s : Bits) → Known (read_header t n s)
unfolding read_header
header-known t n s = after ((header t n).read s 0) _ ((header-gives t n).known s 0) (λ h e. by-test (any_set (drop (e + 1) s)) _ _ tt (refl, (tt, refl)))

pub prefix-known : (k : PrefixKind) (s : Bits) → Known ((prefix k).read s 0)
unfolding prefix
prefix-known k s =
    (shaped-gives _ _ _ _
    (then (flag_if-gives _) (λ store.
    then (flag_if-gives _) (λ adaptive.
    then (operations_if-gives _ base_marking_kind (tt, refl)) (λ base.
    flag_if-gives _))))
    ).known s 0

-- ---- parameter sets

-- 5, 6 and 28, in a body
placed : Allows InBody
placed = record { out = λ p. (refl, (tt, refl)); zeros = λ p. (refl, (tt, refl)); field = λ p. (refl, (tt, refl)) }

set_known : {A : Type 0} (P : A → Type 0) (m : Res A) → Ends InBody P m → Known m
set_known P (got a e) h = tt
set_known P (no r) h = h

pub sequence-known : (s : Bits) → Known (sequence_set s 0)
sequence-known s = set_known _ (sequence_set s 0) ((sequence-gives placed).known s 0)

pub picture-known : (s : Bits) → Known (picture_set s 0)
picture-known s = set_known _ (picture_set s 0) ((picture-gives placed).known s 0)
