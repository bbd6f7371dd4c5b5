-- A prefix read into lent words, by its stages: what is answered, and what is left in the words.
use Prim.Native.Nat.{ℕ}
use mathlib.Core.Path.{◌≡◌, refl, sym, ap, ◌∙◌}
use mathlib.Core.Bool.{Bool}
use mathlib.Core.List.{List}
use lib.ListN.{replicate}
use lib.Seq.{sets}
use Rattle.bits.specs.declared.read.Cursor.{Cursor}
use Rattle.bits.specs.declared.refusals.Refusal.{Refusal}
use Rattle.bits.specs.Bits.{Bits}
use Rattle.bits.specs.Refusals.{Res, got, no}
use Rattle.fmt.specs.Fmt.{seq, shaped}
use Rattle.syntax.specs.declared.context.PrefixKind.{PrefixKind}
use Rattle.syntax.specs.declared.record.Operations.{Operations}
use Rattle.syntax.specs.declared.record.Prefix.{Prefix}
use Rattle.syntax.specs.Marks.{flag_if}
use Rattle.syntax.specs.Lists.{Kind, operations_if}
use Rattle.syntax.specs.Prefix.{base_marking_kind, has_base_marking, prefix}
use Rattle.lists.specs.Leaves.{leaves}
use Rattle.lists.specs.ListsLent.{list_words, list_step, list_left, prefix_step, prefix_left}
use Rattle.lists.proofs.Lent.{list_read, list-refused, list-cleared}
use Rattle.std.specs.Prelude.{Ok, Err}
use Rattle.bits.specs.Answers.{Read, as_read}
use Rattle.syntax.specs.declared.marks.Marked.{Marked}
use Rattle.lists.specs.declared.list_words.PrefixShort.{PrefixShort}

-- the cases of the definition
module _ (k : PrefixKind) (s : Bits) (at : ℕ) where
  store-no : {r : Refusal} → (flag_if k.there).read s at ≡ no r → (prefix k).read s at ≡ no r
  unfolding prefix seq shaped
  store-no e = rw e

  module _ {f : (Marked Bool)} {e1 : ℕ} (h : (flag_if k.there).read s at ≡ got f e1) where
    adaptive-no : {r : Refusal} → (flag_if (has_base_marking k f.value)).read s e1 ≡ no r → (prefix k).read s at ≡ no r
    unfolding prefix seq shaped
    adaptive-no g = rw (h, g)

    module _ {a : (Marked Bool)} {e2 : ℕ} (g : (flag_if (has_base_marking k f.value)).read s e1 ≡ got a e2) where
      marking-no : {r : Refusal} → (operations_if a.value base_marking_kind).read s e2 ≡ no r → (prefix k).read s at ≡ no r
      unfolding prefix seq shaped
      marking-no l = rw (h, g, l)

      module _ {o : Operations} {e3 : ℕ} (l : (operations_if a.value base_marking_kind).read s e2 ≡ got o e3) where
        more_no : {r : Refusal} → (flag_if k.there).read s e3 ≡ no r → (prefix k).read s at ≡ no r
        unfolding prefix seq shaped
        more_no m = rw (h, g, l, m)

        all-got : {x : (Marked Bool)} {e4 : ℕ} → (flag_if k.there).read s e3 ≡ got x e4
            → (prefix k).read s at
            ≡ got (record { store_ref_base_pic_flag = f; adaptive_ref_base_pic_marking_mode_flag = a; base_marking = o; additional_prefix_nal_unit_extension_flag = x }) e4
        unfolding prefix seq shaped
        all-got m = rw (h, g, l, m)

-- an answer for what reading finds, and what is left in the words
abbrev Answer : Res Prefix → Read PrefixShort → List ℕ → Type 0
Answer m a words = (a ≡ prefix_step m) × (words ≡ prefix_left m)

refused : {m : Res Prefix} {r : Refusal} {words : List ℕ} → m ≡ no r → words ≡ replicate 198 0 → Answer m (Err r) words
unfolding prefix_step leaves
refused e w = rw e (refl, w)

read : {m : Res Prefix} {p : Prefix} {n e : ℕ} {words : List ℕ} → m ≡ got p e → n ≡ p.base_marking.count → words ≡ sets (replicate 198 0) 0 (list_words p.base_marking)
    → Answer m (Ok (record { store_ref_base_pic_flag = p.store_ref_base_pic_flag; adaptive_ref_base_pic_marking_mode_flag = p.adaptive_ref_base_pic_marking_mode_flag; base_markings = n; additional_prefix_nal_unit_extension_flag = p.additional_prefix_nal_unit_extension_flag }, record { at = e })) words
unfolding prefix_step leaves
read e k w = rw (e, k) (refl, w)

-- the flag that was asked for is the one of the definition
asked-flag : (k : PrefixKind) (v : Bool) (s : Bits) (at : ℕ) {there : Bool} {x m : Res (Marked Bool)} → there ≡ has_base_marking k v → x ≡ (flag_if there).read s at → x ≡ m
    → (flag_if (has_base_marking k v)).read s at ≡ m
asked-flag k v s at e g h = rw (← e) (sym g ∙ h)

module _ (k : PrefixKind) (s : Bits) (at : ℕ) {zeroed : List ℕ} (zeros : zeroed ≡ replicate 198 0) {a : Read (Marked Bool)} (first : as_read a ≡ (flag_if k.there).read s at) where
  pub store-refused : {r : Refusal} → a ≡ Err r → Answer ((prefix k).read s at) (Err r) zeroed
  store-refused g = refused (store-no k s at (sym first ∙ ap as_read g)) zeros

  module _ {f : (Marked Bool)} {c : Cursor} (got1 : a ≡ Ok (f, c)) {there : Bool} (asked : there ≡ has_base_marking k f.value) {b : Read (Marked Bool)}
      (second : as_read b ≡ (flag_if there).read s c.at) where
    pub adaptive-refused : {r : Refusal} → b ≡ Err r → Answer ((prefix k).read s at) (Err r) zeroed
    adaptive-refused g = refused (adaptive-no k s at (sym first ∙ ap as_read got1) (asked-flag k f.value s c.at asked second (ap as_read g))) zeros

    module _ {v : (Marked Bool)} {d : Cursor} (got2 : b ≡ Ok (v, d)) {n : Kind} (kind : n ≡ base_marking_kind) {l : Read ℕ} {words : List ℕ}
        (third : l ≡ list_step ((operations_if v.value n).read s d.at)) (left : words ≡ list_left ((operations_if v.value n).read s d.at) zeroed) where
      same : (operations_if v.value base_marking_kind).read s d.at ≡ (operations_if v.value n).read s d.at
      same = ap (λ (x : Kind). (operations_if v.value x).read s d.at) (sym kind)

      pub marking-refused : {r : Refusal} → l ≡ Err r → Answer ((prefix k).read s at) (Err r) words
      marking-refused g =
          refused
          (marking-no k s at (sym first ∙ ap as_read got1) (asked-flag k f.value s c.at asked second (ap as_read got2)) (same ∙ list-refused ((operations_if v.value n).read s d.at) third g))
          (list-cleared ((operations_if v.value n).read s d.at) zeroed third left g)

      module _ {count : ℕ} {e : Cursor} (got3 : l ≡ Ok (count, e)) {x : Read (Marked Bool)} (fourth : as_read x ≡ (flag_if k.there).read s e.at) where
        pub more-refused : {r : Refusal} {cleared : List ℕ} → x ≡ Err r → cleared ≡ replicate 198 0 → Answer ((prefix k).read s at) (Err r) cleared
        more-refused g w =
            let o = list_read ((operations_if v.value n).read s d.at) third left got3 in
            refused (more_no k s at (sym first ∙ ap as_read got1) (asked-flag k f.value s c.at asked second (ap as_read got2)) (same ∙ o.read) (sym fourth ∙ ap as_read g)) w

        pub prefix-read : {m : (Marked Bool)} {z : Cursor} → x ≡ Ok (m, z)
            → Answer ((prefix k).read s at) (Ok (record { store_ref_base_pic_flag = f; adaptive_ref_base_pic_marking_mode_flag = v; base_markings = count; additional_prefix_nal_unit_extension_flag = m }, z)) words
        prefix-read g =
            let o = list_read ((operations_if v.value n).read s d.at) third left got3 in
            read (all-got k s at (sym first ∙ ap as_read got1) (asked-flag k f.value s c.at asked second (ap as_read got2)) (same ∙ o.read) (sym fourth ∙ ap as_read g)) o.counted (rw (← zeros) o.held)
