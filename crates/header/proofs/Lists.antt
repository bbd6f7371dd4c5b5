-- Reading both lists, and reading the marking, by cases: the stage that refuses it, or the part.
use Prim.Native.Nat.{ℕ}
use mathlib.Core.Path.{◌≡◌}
use Rattle.bits.specs.declared.refusals.Refusal.{Refusal}
use Rattle.bits.specs.Refusals.{got, no}
use Rattle.bits.specs.Bits.{Bits}
use Rattle.syntax.specs.declared.context.Context.{Context}
use Rattle.syntax.specs.declared.record.Operations.{Operations}
use Rattle.syntax.specs.Marks.{flag_if}
use Rattle.syntax.specs.Lists.{operations_if}
use Rattle.syntax.specs.Context.{is_b}
use Rattle.syntax.specs.SliceHeader.{modification_kind, modifications, marking_kind, dec_ref_pic_marking}
use Rattle.header.specs.declared.stages.MarkingFlags.{MarkingFlags}
use Rattle.header.specs.Stages.{first_flag_at, marking_flags_at}
use Rattle.header.specs.Short.{lists_of, marks_of}
use Rattle.header.specs.declared.slice.Lists.{Lists}
use Rattle.header.specs.declared.slice.Marks.{Marks}
use Rattle.header.proofs.Split.{modifications_of, marking_of, modifications-split, marking-split}
use Rattle.syntax.specs.declared.marks.Marked.{Marked}
use Rattle.std.specs.Prelude.{Bool}

module _ (x : Context) (k : ℕ) (s : Bits) (at : ℕ) where
  pub first-no : {r : Refusal} → first_flag_at x k s at ≡ no r → (modifications x k).read s at ≡ no r
  first-no z = rw (modifications-split x k s at, z)

  module _ {g : (Marked Bool)} {c : ℕ} (hg : first_flag_at x k s at ≡ got g c) where
    pub l0-no : {r : Refusal} → (operations_if g.value (modification_kind x.kind.mvc)).read s c ≡ no r → (modifications x k).read s at ≡ no r
    l0-no z = rw (modifications-split x k s at, hg, z)

    module _ {o : Operations} {d : ℕ} (ho : (operations_if g.value (modification_kind x.kind.mvc)).read s c ≡ got o d) where
      pub second-no : {r : Refusal} → (flag_if (is_b k)).read s d ≡ no r → (modifications x k).read s at ≡ no r
      second-no z = rw (modifications-split x k s at, hg, ho, z)

      module _ {h : (Marked Bool)} {e : ℕ} (hh : (flag_if (is_b k)).read s d ≡ got h e) where
        pub l1-no : {r : Refusal} → (operations_if h.value (modification_kind x.kind.mvc)).read s e ≡ no r → (modifications x k).read s at ≡ no r
        l1-no z = rw (modifications-split x k s at, hg, ho, hh, z)

        pub both_read : {p : Operations} {f : ℕ} → (operations_if h.value (modification_kind x.kind.mvc)).read s e ≡ got p f
            → (modifications x k).read s at ≡ got (modifications_of g o h p) f
        both_read z = rw (modifications-split x k s at, hg, ho, hh, z)

module _ (x : Context) (s : Bits) (at : ℕ) where
  pub flags-no : {r : Refusal} → marking_flags_at x s at ≡ no r → (dec_ref_pic_marking x).read s at ≡ no r
  flags-no z = rw (marking-split x 0 s at, z)

  module _ {m : MarkingFlags} {c : ℕ} (hm : marking_flags_at x s at ≡ got m c) where
    pub marking-no : {r : Refusal} → (operations_if m.adaptive_ref_pic_marking_mode_flag.value marking_kind).read s c ≡ no r → (dec_ref_pic_marking x).read s at ≡ no r
    marking-no z = rw (marking-split x 0 s at, hm, z)

    pub marking-read : {o : Operations} {d : ℕ} → (operations_if m.adaptive_ref_pic_marking_mode_flag.value marking_kind).read s c ≡ got o d
        → (dec_ref_pic_marking x).read s at ≡ got (marking_of m o) d
    marking-read z = rw (marking-split x 0 s at, hm, z)

-- the code's own parts, from the counts that it has

pub lists-same : {g h : (Marked Bool)} (o p : Operations) {m n : ℕ} → m ≡ o.count → n ≡ p.count
    → ◌≡◌ {A = Lists} (record { flag0 = g; count0 = m; flag1 = h; count1 = n }) (lists_of (modifications_of g o h p))
lists-same o p h k = rw (h, k)

pub marks-same : {m : MarkingFlags} (o : Operations) {n : ℕ} → n ≡ o.count → ◌≡◌ {A = Marks} (record { flags = m; count = n }) (marks_of (marking_of m o))
marks-same o h = rw h
