-- How the writes of a format's parts make the write of the whole.
use Prim.Native.Nat.{ℕ, zero, suc, ◌+◌, ◌≤◌, ◌<◌}
use mathlib.Core.Path.{◌≡◌, refl, ap, subst, subst⁻¹, ◌∙◌}
use mathlib.Core.List.{List, [], ◌∷◌}
use mathlib.Core.Bool.{Bool, true, false, not}
use native.Mathlib.Omega.{arith}
use native.Mathlib.Nat.{add_assoc, add-zero}
use lib.Dec.{T, leb, eqb}
use lib.IntN.{ℤ, pos}
use lib.ListN.{length, length-append}
use borrow.Author.Tests.{le-leb, lt-leb, leb-true, leb-false}
use Rattle.bits.specs.declared.refusals.Refusal.{Refusal}
use Rattle.bits.specs.declared.read.Cursor.{Cursor}
use Rattle.bits.specs.Refusals.{refusal, no_bits, buffer_too_short}
use Rattle.bits.specs.Bits.{Bits, bits_of}
use Rattle.bits.specs.Put.{Written, written, put_bits, bytes_for}
use Rattle.bits.proofs.Results.{cases}
use Rattle.bits.proofs.Puts.{put-append}
use Rattle.bits.proofs.Buffers.{length-bits-put}
use Rattle.fmt.specs.Fmt.{Fmt, nothing, seq, shaped, test, Marked, when, times, until}
use Rattle.fmt.specs.Put.{Put, done, none}
use Rattle.fmt.proofs.Lawful.{both-0, both-1, both-T}
use Rattle.std.specs.Prelude.{Result, Ok, Err}

-- what a write that was done says
pub record Done {A : Type 0} (F : Fmt A) (a : A) (d : List ℕ) (at : ℕ) (d' : List ℕ) (c : Cursor) : Type 0 where
  pub is-good : T (F.good a)
  pub place : c.at ≡ at + length (F.bits a)
  pub now-is : d' ≡ put_bits d at (F.bits a)

-- what a write that was refused says: a good value has no room
pub record Stopped {A : Type 0} (F : Fmt A) (a : A) (d : List ℕ) (at : ℕ) : Type 0 where
  pub no_room : T (F.good a) → length (bits_of d) < at + length (F.bits a)

module _ {A : Type 0} {F : Fmt A} {a : A} {d : List ℕ} {at : ℕ} {d' : List ℕ} where
  pub answered : {c : Cursor} (r : Result Cursor Refusal) → r ≡ Ok c → Put F a d at d' r → Done F a d at d' c
  answered r q (done c g p n) = subst (λ (x : Cursor). Done F a d at d' x) (cc q) (record { is-good = g; place = p; now-is = n })
  answered r q (none x h) = absurd (let z : ◌≡◌ {A = ℕ} 0 1 = (cc q) in omega arith)

  pub stopped : {x : Refusal} (r : Result Cursor Refusal) → r ≡ Err x → Put F a d at d' r → Stopped F a d at
  stopped r q (done c g p n) = absurd (let z : ◌≡◌ {A = ℕ} 0 1 = (cc q) in omega arith)
  stopped r q (none y h) = record { no_room = h }

  pub stop : {x : Refusal} → Stopped F a d at → Put F a d at d' (Err x)
  stop s = none _ s.no_room

-- a value that has no bits
pub not_good : {A : Type 0} (F : Fmt A) (a : A) {d : List ℕ} {at : ℕ} {d' : List ℕ} {x : Refusal} → F.good a ≡ false → Put F a d at d' (Err x)
not_good F a g = none _ (λ t. absurd (subst T g t))

-- a write of the crate bits

module _ (good : Bool) (l : Bits) (d : List ℕ) (at : ℕ) where
  written-good : good ≡ true → at + length l ≤ length (bits_of d) → written good l d at ≡ record { answer = Ok (record { at = at + length l }); left = put_bits d at l }
  unfolding written
  written-good g h = rw (g, le-leb (at + length l) (length (bits_of d)) h)

  written-short : good ≡ true → length (bits_of d) < at + length l
      → written good l d at ≡ record { answer = Err (refusal buffer_too_short (pos (bytes_for (at + length l)))); left = d }
  unfolding written
  written-short g h = rw (g, lt-leb (at + length l) (length (bits_of d)) h)

  written_none : good ≡ false → written good l d at ≡ record { answer = Err (refusal no_bits (pos 0)); left = d }
  unfolding written
  written_none g = rw g

module _ {A : Type 0} (F : Fmt A) (a : A) (d : List ℕ) (at : ℕ) (d' : List ℕ) (r : Result Cursor Refusal) where
  pub put_of : r ≡ (written (F.good a) (F.bits a) d at).answer → d' ≡ (written (F.good a) (F.bits a) d at).left → Put F a d at d' r
  put_of hr hd =
      cases (F.good a)
      (λ g.
      cases (leb (at + length (F.bits a)) (length (bits_of d)))
      (λ room.
      let e = written-good (F.good a) (F.bits a) d at g (leb-true (at + length (F.bits a)) (length (bits_of d)) room) in
      subst⁻¹ (λ (x : Result Cursor Refusal). Put F a d at d' x) (hr ∙ ap (λ (w : Written). w.answer) e)
      (done (record { at = at + length (F.bits a) }) (subst⁻¹ T g tt) refl (hd ∙ ap (λ (w : Written). w.left) e)))
      (λ short.
      let h = leb-false (at + length (F.bits a)) (length (bits_of d)) short in
      let e = written-short (F.good a) (F.bits a) d at g h in
      subst⁻¹ (λ (x : Result Cursor Refusal). Put F a d at d' x) (hr ∙ ap (λ (w : Written). w.answer) e) (none _ (λ t. h))))
      (λ g.
      let e = written_none (F.good a) (F.bits a) d at g in
      subst⁻¹ (λ (x : Result Cursor Refusal). Put F a d at d' x) (hr ∙ ap (λ (w : Written). w.answer) e) (not_good F a g))

-- the same bits for a value of another format
carry : {A B : Type 0} (F : Fmt A) (a : A) (G : Fmt B) (b : B) {d : List ℕ} {at : ℕ} {d' : List ℕ} {r : Result Cursor Refusal} → G.good b ≡ F.good a → G.bits b ≡ F.bits a
    → Put F a d at d' r → Put G b d at d' r
carry F a G b {d = d} {at = at} {d' = d'} e f (done c g p n) =
    done c (subst⁻¹ T e g) (subst⁻¹ (λ (l : Bits). c.at ≡ at + length l) f p) (subst⁻¹ (λ (l : Bits). d' ≡ put_bits d at l) f n)
carry F a G b {d = d} {at = at} e f (none x h) =
    none x (λ t. subst⁻¹ (λ (l : Bits). length (bits_of d) < at + length l) f (h (subst T e t)))

-- what was written leaves the buffer's length
length-done : {A : Type 0} (F : Fmt A) (a : A) {d : List ℕ} {at : ℕ} {d' : List ℕ} {c : Cursor} → Done F a d at d' c → length (bits_of d') ≡ length (bits_of d)
length-done F a {d = d} {at = at} x = ap (λ (l : List ℕ). length (bits_of l)) x.now-is ∙ length-bits-put d at (F.bits a)

module _ {A B : Type 0} (F : Fmt A) (G : A → Fmt B) (a : A) (b : B) {d : List ℕ} {at : ℕ} where
  pub seq-put : {d₁ d₂ : List ℕ} {c : Cursor} {r : Result Cursor Refusal} → Done F a d at d₁ c → Put (G a) b d₁ c.at d₂ r → Put (seq F G) (a, b) d at d₂ r
  unfolding seq
  seq-put x (done e g p n) =
      done e (both-T (F.good a) ((G a).good b) x.is-good g)
      (p ∙ rw (x.place, length-append (F.bits a) ((G a).bits b)) (add_assoc at (length (F.bits a)) (length ((G a).bits b))))
      (n ∙ rw (x.now-is, x.place) (put-append d at (F.bits a) ((G a).bits b)))
  seq-put x (none y h) =
      none y
      (λ t.
      let k = h (both-1 (F.good a) ((G a).good b) t) in
      omega (arith, k, x.place, length-done F a x, length-append (F.bits a) ((G a).bits b)))

  pub seq-stop : {x : Refusal} {d' : List ℕ} → Stopped F a d at → Put (seq F G) (a, b) d at d' (Err x)
  unfolding seq
  seq-stop s =
      none _
      (λ t.
      let k = s.no_room (both-0 (F.good a) ((G a).good b) t) in
      omega (arith, k, length-append (F.bits a) ((G a).bits b)))

module _ {A B : Type 0} (to : A → B) (from : B → A) (ok : B → Bool) (F : Fmt A) (x : B) where
  pub shaped-put : {d : List ℕ} {at : ℕ} {d' : List ℕ} {r : Result Cursor Refusal} → ok x ≡ true → Put F (from x) d at d' r → Put (shaped to from ok F) x d at d' r
  unfolding shaped
  shaped-put q = carry F (from x) (shaped to from ok F) x (rw q) refl

  pub shaped-none : ok x ≡ false → (shaped to from ok F).good x ≡ false
  unfolding shaped
  shaped-none q = rw q

module _ {A : Type 0} (ok : A → Bool) (n : ℕ) (value : A → ℤ) (F : Fmt A) (a : A) where
  pub test-put : {d : List ℕ} {at : ℕ} {d' : List ℕ} {r : Result Cursor Refusal} → ok a ≡ true → Put F a d at d' r → Put (test ok n value F) a d at d' r
  unfolding test
  test-put q = carry F a (test ok n value F) a (rw q) refl

  pub test-none : ok a ≡ false → (test ok n value F).good a ≡ false
  unfolding test
  test-none q = rw q

-- a format without bits leaves the buffer as it was
empty-put : {A : Type 0} (F : Fmt A) (a : A) (d : List ℕ) (at : ℕ) → T (F.good a) → F.bits a ≡ [] → Put F a d at d (Ok (record { at = at }))
unfolding put_bits
empty-put F a d at g e = done (record { at = at }) g (rw (e, add-zero at)) (rw e)

pub nothing_put : (d : List ℕ) (at : ℕ) → Put nothing tt d at d (Ok (record { at = at }))
unfolding nothing
nothing_put d at = empty-put nothing tt d at tt refl

module _ {A : Type 0} (z : A) (isz : A → Bool) (F : Fmt A) (m : Marked A) where
  pub when-put : {d : List ℕ} {at : ℕ} {d' : List ℕ} {r : Result Cursor Refusal} (b : Bool) → b ≡ true → m.there ≡ true → Put F m.value d at d' r → Put (when b z isz F) m d at d' r
  unfolding when
  when-put b q t = carry F m.value (when b z isz F) m (rw (q, t)) (rw q)

  pub when-absent : (d : List ℕ) (at : ℕ) (b : Bool) → b ≡ false → m.there ≡ false → T (isz m.value)
      → Put (when b z isz F) m d at d (Ok (record { at = at }))
  unfolding when
  when-absent d at b q t i = empty-put (when b z isz F) m d at (rw (q, t) i) (rw q)

  -- the mark is not what it should be
  pub when-marked : (b : Bool) → m.there ≡ not b → (when b z isz F).good m ≡ false
  unfolding when
  when-marked true t = rw t
  when-marked false t = rw t

-- lists, an element at a time
module _ {A : Type 0} (F : Fmt A) where
  pub times-end : (d : List ℕ) (at : ℕ) → Put (times zero F) [] d at d (Ok (record { at = at }))
  unfolding times
  times-end d at = empty-put (times zero F) [] d at tt refl

  pub times-put : (n : ℕ) (a : A) (l : List A) {d : List ℕ} {at : ℕ} {d' : List ℕ} {r : Result Cursor Refusal} → Put (seq F (λ x. times n F)) (a, l) d at d' r → Put (times (suc n) F) (a ∷ l) d at d' r
  unfolding times seq
  times-put n a l = carry (seq F (λ x. times n F)) (a, l) (times (suc n) F) (a ∷ l) refl refl

module _ {A : Type 0} (C : Fmt ℕ) (close : ℕ) (G : ℕ → Fmt A) where
  pub until_end : (n : ℕ) {d : List ℕ} {at : ℕ} {d' : List ℕ} {r : Result Cursor Refusal} → Put C close d at d' r → Put (until C close G n) [] d at d' r
  unfolding until
  until_end zero = carry C close (until C close G zero) [] refl refl
  until_end (suc n) = carry C close (until C close G (suc n)) [] refl refl

  pub until-put : (n : ℕ) (x : ℕ × A) (l : List (ℕ × A)) {d : List ℕ} {at : ℕ} {d' : List ℕ} {r : Result Cursor Refusal} → eqb x.0 close ≡ false
      → Put (seq C (λ c. seq (G c) (λ a. until C close G n))) (x.0, (x.1, l)) d at d' r → Put (until C close G (suc n)) (x ∷ l) d at d' r
  unfolding until seq
  until-put n x l q = carry (seq C (λ c. seq (G c) (λ a. until C close G n))) (x.0, (x.1, l)) (until C close G (suc n)) (x ∷ l) (rw q) refl

  -- the closing code in the list, or one code too many
  pub until-closes : (n : ℕ) (x : ℕ × A) (l : List (ℕ × A)) → eqb x.0 close ≡ true → (until C close G n).good (x ∷ l) ≡ false
  unfolding until
  until-closes zero x l q = refl
  until-closes (suc n) x l q = rw q
