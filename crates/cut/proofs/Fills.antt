-- Writing pieces: what is written and what is still wanted stay the same together.
-- Assumes nothing.
use Rattle.std.proofs.Common.{◌≡◌, ℕ, suc, ◌+◌, ◌-◌, ◌<◌, ◌≤◌, Bool, List, [], ◌∷◌, ◌++◌, map, length, take, sym, ap, ◌∙◌, append_assoc, arith}
use Rattle.std.proofs.lemmas.List.{take-append-le, length_push, length-take}
use Rattle.sheet.specs.Left.{Left, piece_of}
use Rattle.sheet.specs.declared.records.Piece.{Piece}
use Rattle.cut.specs.Field.{Field, more}

-- e and what is still wanted of the field f are e0 and what was wanted of f0
pub record Fills (e e0 : List Piece) (r r0 w w0 : ℕ) (f f0 : Field) : Type 0 where
  pub all : e ++ map piece_of (take w f.texts) ≡ e0 ++ map piece_of (take w0 f0.texts)
  pub room : r ≡ r0
  pub front : take (length e0) e ≡ e0
  pub size : length e + w ≡ length e0 + w0

take_cons : {X : Type 0} (w : ℕ) (x : X) (xs : List X) → 0 < w → take w (x ∷ xs) ≡ x ∷ take (w - 1) xs
take_cons w x xs h = let e : w ≡ suc (w - 1) = omega arith in ap (λ (k : ℕ). take k (x ∷ xs)) e

module _ (e e0 : List Piece) (r r0 w w0 : ℕ) (f0 : Field) where
  pub fills_at : (f g : Field) → f ≡ g → Fills e e0 r r0 w w0 f f0 → Fills e e0 r r0 w w0 g f0
  fills_at f g q h = record { all = sym (ap (λ (x : Field). e ++ map piece_of (take w x.texts)) q) ∙ h.all; room = h.room; front = h.front; size = h.size }

  pub fills_more : (b : Bool) (t : Left) (f : Field) (p : Piece) (e' : List Piece) (r' : ℕ) → 0 < w → p ≡ piece_of t → e' ≡ e ++ p ∷ [] → r' ≡ r
      → Fills e e0 r r0 w w0 (more b t f) f0 → Fills e' e0 r' r0 (w - 1) w0 f f0
  fills_more b t f p e' r' l q s z h =
      let lp : length e' ≡ length e + 1 = ap length s ∙ length_push e p in
      let le = ap length h.front in
      let lt = length-take (length e0) e in
      let fits : length e0 ≤ length e = omega arith in
      record {
        all = ap (λ (x : List Piece). x ++ map piece_of (take (w - 1) f.texts)) (s ∙ ap (λ (x : Piece). e ++ x ∷ []) q)
            ∙ append_assoc e (piece_of t ∷ []) (map piece_of (take (w - 1) f.texts))
            ∙ sym (ap (λ (x : List Left). e ++ map piece_of x) (take_cons w t f.texts l)) ∙ h.all;
        room = z ∙ h.room;
        front = ap (take (length e0)) s ∙ take-append-le (length e0) e (p ∷ []) fits ∙ h.front;
        size = let hs = h.size in omega arith;
      }
