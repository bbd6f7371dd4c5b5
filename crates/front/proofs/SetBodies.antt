-- A parameter set read from its unit: a sequence set from a part of bounded length, a picture set's end from where its ids end.
use Prim.Native.Nat.{ℕ, ◌+◌, ◌*◌, ◌/◌, ◌%◌, ◌≤◌}
use mathlib.Core.Path.{◌≡◌, sym, ap, ◌∙◌}
use mathlib.Core.List.{List, []}
use native.Mathlib.Omega.{arith}
use lib.ListN.{length, drop, length-drop}
use Rattle.bits.specs.Refusals.{got, limit}
use Rattle.bits.specs.declared.read.Cursor.{Cursor}
use Rattle.bits.specs.Bits.{Bits, bytes_bits, bits_of}
use Rattle.bits.proofs.Slices.{length-bytes}
use Rattle.fmt.specs.Leaves.{u}
use Rattle.fmt.specs.Reads.{Reads, passes}
use Rattle.fmt.proofs.Ahead.{on-got}
use Rattle.escape.specs.Body.{body}
use Rattle.escape.proofs.Bodies.{part_length}
use Rattle.fields.specs.Steps.{as_end}
use Rattle.parameter_sets.specs.declared.picture.PictureStart.{PictureStart}
use Rattle.parameter_sets.specs.SequenceSet.{sequence_set}
use Rattle.parameter_sets.specs.PictureParts.{picture_start, picture_rest, moved, id_count, id_bits, ids_end}
use Rattle.parameter_sets.proofs.Looks.{Looks, looks-room, passes-looks, u-looks}
use Rattle.parameter_sets.proofs.SetsLook.{sequence-looks, start-looks, rest-looks}
use Rattle.parameter_sets.proofs.Moves.{Moved, is-moved, value-within, refusal-within, rest-moves}
use Rattle.parameter_sets.proofs.PictureParts.{ends-passed}
use Rattle.cut.specs.Seam.{body_bits, far_body, tail_body}
use Rattle.cut.proofs.Fronts.{far-any}
use Rattle.cut.proofs.Tails.{tail-same, tail-bits}
use Rattle.front.specs.Places.{place_in}
use Rattle.std.specs.Prelude.{Result, Ok, Err}
use Rattle.bits.specs.Answers.{Read, as_read}
use Rattle.bits.specs.declared.refusals.Refusal.{Refusal}
use Rattle.parameter_sets.specs.declared.picture.PictureSet.{PictureSet}

-- ---- a sequence set

pub far-sequence : (unit : List ℕ) → sequence_set (bytes_bits (far_body unit 1)) 0 ≡ sequence_set (body_bits unit 1) 0
far-sequence unit = far-any unit 1 (omega arith) (λ (b : Bits). sequence_set b 0) (λ s r l. looks-room sequence-looks s r 0 (omega arith))

-- ---- a picture set, before its ids

pub first-start : (unit : List ℕ) → picture_start (bytes_bits (tail_body unit 1 0)) 0 ≡ picture_start (body_bits unit 1) 0
first-start unit = tail-same (λ (b : Bits). picture_start b 0) (λ s r l. looks-room start-looks s r 0 (omega arith)) unit 1 0

-- what is read ends within the bits
got-within : {A : Type 0} {F : Reads A} {n : ℕ} → Looks F n → (s : Bits) (at : ℕ) → at ≤ length s → {a : A} {e : ℕ} → F s at ≡ got a e → e ≤ length s
got-within W s at h q = (on-got (W.goes s [] at h) q).1

-- ---- its ids

-- so many bits
pub body-bits : (unit : List ℕ) (from : ℕ) → 8 * length (body 0 (drop from unit)) ≡ length (body_bits unit from)
body-bits unit from = sym (length-bytes (body 0 (drop from unit)))

pub bits-few : (unit : List ℕ) → length unit ≤ limit → length (body_bits unit 1) ≤ 2147483648
bits-few unit h = omega (arith, body-bits unit 1, part_length unit 1)

module _ (unit : List ℕ) (v : PictureStart) (e : ℕ) (p : picture_start (body_bits unit 1) 0 ≡ got v e) {r : Result Cursor Refusal} {m : ℕ} (n : m ≡ length (body 0 (drop 1 unit)))
    (q : r ≡ ids_end v.groups e (8 * m)) where
  pub ids-passed : as_end r tt ≡ passes (id_count v.groups) (u (id_bits v.groups)).read (body_bits unit 1) e
  ids-passed = rw (q, n, body-bits unit 1) (ends-passed v.groups (body_bits unit 1) e)

  pub ids-within : (d : Cursor) → r ≡ Ok d → d.at ≤ length (body_bits unit 1)
  ids-within d k =
      let l : e ≤ length (body_bits unit 1) = got-within start-looks (body_bits unit 1) 0 (omega arith) p in
      let g : passes (id_count v.groups) (u (id_bits v.groups)).read (body_bits unit 1) e ≡ got tt d.at = sym ids-passed ∙ ap (λ (x : Result Cursor Refusal). as_end x tt) k in
      got-within (passes-looks (u-looks (id_bits v.groups)) (id_count v.groups)) (body_bits unit 1) e l g

-- ---- and behind them

module _ (unit : List ℕ) (at : ℕ) (h : at ≤ length (body_bits unit 1)) (start : PictureStart) where
  abbrev B : Bits
  B = body_bits unit 1

  abbrev k : ℕ
  k = at / 8

  last_rest : picture_rest start (bytes_bits (tail_body unit 1 k)) (at % 8) ≡ picture_rest start (drop (8 * k) B) (at % 8)
  last_rest = tail-same (λ (b : Bits). picture_rest start b (at % 8)) (λ s r l. looks-room (rest-looks start) s r (at % 8) (omega arith)) unit 1 k

  moves : Moved (8 * k) (length (drop (8 * k) B)) (picture_rest start B (8 * k + at % 8)) (picture_rest start (drop (8 * k) B) (at % 8))
  moves = (rest-moves start).moves B (8 * k) (at % 8) (omega arith) (omega (arith, length-drop (8 * k) B))

  module _ (a : Read PictureSet) (p : as_read a ≡ picture_rest start (bytes_bits (tail_body unit 1 k)) (at % 8)) where
    pub rest-place : place_in a ≤ length (body_bits unit 1)
    rest-place = go a (p ∙ last_rest)
      where
        go : (a : Read PictureSet) → as_read a ≡ picture_rest start (drop (8 * k) B) (at % 8) → place_in a ≤ length B
        go (Ok (v, c)) q = omega (arith, value-within moves (sym q), length-drop (8 * k) B)
        go (Err r) q = omega (arith, refusal-within moves (sym q), length-drop (8 * k) B)

    pub rest-moved : moved (8 * k) (as_read a) ≡ picture_rest start (body_bits unit 1) at
    rest-moved =
        let e : 8 * k + at % 8 ≡ at = omega arith in
        ap (moved (8 * k)) (p ∙ last_rest) ∙ sym (is-moved moves) ∙ ap (λ (n : ℕ). picture_rest start B n) e

-- what is read from the array
pub rest_read : (unit : List ℕ) (at : ℕ) (start : PictureStart) {x : List ℕ} (a : Read PictureSet) → x ≡ tail_body unit 1 (at / 8) → as_read a ≡ picture_rest start (bits_of x) (at % 8)
    → as_read a ≡ picture_rest start (bytes_bits (tail_body unit 1 (at / 8))) (at % 8)
rest_read unit at start a e p = p ∙ ap (λ (b : Bits). picture_rest start b (at % 8)) (tail-bits unit 1 (at / 8) e)
