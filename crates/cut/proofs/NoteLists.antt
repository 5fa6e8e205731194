-- Writing notes: those written and those that still fit stay the same together.
-- Assumes nothing.
use Rattle.std.proofs.Common.{◌≡◌, ℕ, suc, ◌+◌, ◌-◌, ◌<◌, List, [], ◌∷◌, ◌++◌, map, length, take, sym, ap, ◌∙◌, append_assoc, arith}
use Rattle.std.proofs.lemmas.List.{length_push}
use Rattle.sheet.specs.Left.{Left}
use Rattle.cut.specs.declared.types.Note.{Note}
use Rattle.cut.specs.Field.{Field, noted}
use Rattle.cut.specs.Scanned.{note_at}

-- e and the notes of the field f that still fit are e0 and those of f0 that fit
pub record Noting (k : ℕ) (e e0 : List Note) (r r0 : ℕ) (f f0 : Field) : Type 0 where
  pub all : e ++ take (r - length e) (map (note_at k) f.notes) ≡ e0 ++ take (r0 - length e0) (map (note_at k) f0.notes)
  pub room : r ≡ r0

module _ (k : ℕ) (e e0 : List Note) (r r0 : ℕ) (f0 : Field) where
  pub notes_at : (f g : Field) → f ≡ g → Noting k e e0 r r0 f f0 → Noting k e e0 r r0 g f0
  notes_at f g q h = record { all = sym (ap (λ (x : Field). e ++ take (r - length e) (map (note_at k) x.notes)) q) ∙ h.all; room = h.room }

  pub notes_more : (t : Left) (f : Field) (e' : List Note) (r' : ℕ) → length e < r → e' ≡ e ++ note_at k t.number ∷ [] → r' ≡ r → Noting k e e0 r r0 (noted t f) f0 → Noting k e' e0 r' r0 f f0
  notes_more t f e' r' l s z h =
      let p : length e' ≡ length e + 1 = ap length s ∙ length_push e (note_at k t.number) in
      let n : r - length e ≡ suc (r' - length e') = omega arith in
      record {
        all = ap (λ (x : List Note). x ++ take (r' - length e') (map (note_at k) f.notes)) s
            ∙ append_assoc e (note_at k t.number ∷ []) (take (r' - length e') (map (note_at k) f.notes))
            ∙ sym (ap (λ (j : ℕ). e ++ take j (map (note_at k) (t.number ∷ f.notes))) n) ∙ h.all;
        room = z ∙ h.room;
      }
