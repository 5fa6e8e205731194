-- A pair of Newline pieces, one place further.
-- Assumes nothing.
use Rattle.std.proofs.Common.{◌≡◌, ℕ, ◌+◌, ◌<◌, true, false, cond, ◌&&◌, List, [], ◌∷◌, length, get_or, drop, sym, refl, ap, ◌∙◌, ⊎_elim, arith}
use Rattle.std.proofs.lemmas.List.{drop_more}
use Rattle.std.proofs.lemmas.Bool.{cases_eq, and_from, and_left, and_right, cond-true, cond-false}
use Rattle.sheet.specs.View.{SheetView, is_newline_piece}
use Rattle.sheet.specs.declared.records.Piece.{Piece}
use Rattle.cut.specs.BlankLine.{two_newlines}

pub few_pieces : (v : SheetView) (ps : List Piece) → length ps < 2 → two_newlines v ps ≡ false
few_pieces v [] h = refl
few_pieces v (p ∷ []) h = refl
few_pieces v (p ∷ q ∷ ps) h = absurd (omega arith)

module _ (v : SheetView) (ps : List Piece) (i : ℕ) (d : Piece) (in' : i + 1 < length ps) where
  pair_front : drop i ps ≡ get_or ps i d ∷ get_or ps (i + 1) d ∷ drop (i + 1 + 1) ps
  pair_front = drop_more ps i d (omega arith) ∙ ap (λ (xs : List Piece). get_or ps i d ∷ xs) (drop_more ps (i + 1) d in')

  pair_by : two_newlines v (drop i ps) ≡ cond (is_newline_piece v (get_or ps i d) && is_newline_piece v (get_or ps (i + 1) d)) true (two_newlines v (drop (i + 1) ps))
  pair_by = ap (two_newlines v) pair_front ∙ ap (λ (xs : List Piece). cond (is_newline_piece v (get_or ps i d) && is_newline_piece v (get_or ps (i + 1) d)) true (two_newlines v xs)) (sym (drop_more ps (i + 1) d in'))

  -- both are Newlines
  pub pair_found : is_newline_piece v (get_or ps i d) ≡ true → is_newline_piece v (get_or ps (i + 1) d) ≡ true → two_newlines v (drop i ps) ≡ true
  pair_found a b = pair_by ∙ cond-true _ _ _ (and_from _ _ a b)

  -- one of them is none
  pub pair_first : is_newline_piece v (get_or ps i d) ≡ false → two_newlines v (drop i ps) ≡ two_newlines v (drop (i + 1) ps)
  pair_first a = pair_by ∙ cond-false _ _ _ (and_left _ _ a)

  pub pair_second : is_newline_piece v (get_or ps (i + 1) d) ≡ false → two_newlines v (drop i ps) ≡ two_newlines v (drop (i + 1) ps)
  pair_second b = pair_by ∙ cond-false _ _ _ (and_right _ _ b)

  -- the piece k places on, for k below 2, is none
  pub pair_at : (k : ℕ) → k < 2 → is_newline_piece v (get_or ps (i + k) d) ≡ false → two_newlines v (drop i ps) ≡ two_newlines v (drop (i + 1) ps)
  pair_at k l h =
      ⊎_elim
      (λ e. let z : i + k ≡ i = omega arith in pair_first (sym (ap (λ (j : ℕ). is_newline_piece v (get_or ps j d)) z) ∙ h))
      (λ ne. let z : i + k ≡ i + 1 = omega arith in pair_second (sym (ap (λ (j : ℕ). is_newline_piece v (get_or ps j d)) z) ∙ h))
      (cases_eq k 0)
