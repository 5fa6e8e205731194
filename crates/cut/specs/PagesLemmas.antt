-- A page as the list of its cells: where each cell takes something, the list begins with the cell in front.
-- Assumes nothing.
use Rattle.std.specs.Prelude.{◌≡◌, ℕ, zero, suc, ◌-◌, ◌<◌, ◌≤◌, Bool, List, [], ◌∷◌, Some, None, Option, ◌≢◌, refl}
use Rattle.std.proofs.Common.{sym, ap, ◌∙◌, arith}
use Rattle.std.specs.List.{AllByRecursion}
use Rattle.sheet.specs.Left.{Left}
use Rattle.cut.specs.Raw.{RawCell, Next, cells_up_to, bound, cells_of}

abbrev turn : (Bool → List Left → Option Next) → ℕ → Option Next → List RawCell
turn next n o = elim o [ None ↦ [] | Some c ↦ c.cell ∷ cells_up_to next n c.separated c.left ]

module _ (next : Bool → List Left → Option Next) where
  turn_same : (n m : ℕ) (o : Option Next) → ((c : Next) → o ≡ Some c → cells_up_to next n c.separated c.left ≡ cells_up_to next m c.separated c.left) → turn next n o ≡ turn next m o
  turn_same n m None f = refl
  turn_same n m (Some c) f = ap (λ (x : List RawCell). c.cell ∷ x) (f c refl)

  turn_none : (n : ℕ) (o : Option Next) → ((c : Next) → o ≢ Some c) → turn next n o ≡ []
  turn_none n None f = refl
  turn_none n (Some c) f = absurd (f c refl)

  -- no cell
  pub cells_none : (s : Bool) (ts : List Left) → next s ts ≡ None → cells_of next s ts ≡ []
  cells_none s ts e = go (bound s ts)
    where
      go : (n : ℕ) → cells_up_to next n s ts ≡ []
      go zero = refl
      go (suc n) = ap (turn next n) e

  -- what holds of what is left and passes to what each cell leaves gives what holds of each cell
  pub cells_all : (P : List Left → Type 0) (Q : RawCell → Type 0) → ((s : Bool) (ts : List Left) (c : Next) → next s ts ≡ Some c → P ts → Q c.cell × P c.left)
      → (n : ℕ) (s : Bool) (ts : List Left) → P ts → AllByRecursion Q (cells_up_to next n s ts)
  cells_all P Q step zero s ts p = tt
  cells_all P Q step (suc n) s ts p = go (λ s' ts' p'. cells_all P Q step n s' ts' p') (next s ts) refl
    where
      go : ((s' : Bool) (ts' : List Left) → P ts' → AllByRecursion Q (cells_up_to next n s' ts')) → (o : Option Next) → next s ts ≡ o → AllByRecursion Q (turn next n o)
      go rest None e = tt
      go rest (Some c) e = let q = step s ts c e p in (q.0, rest c.separated c.left q.1)

module _ (next : Bool → List Left → Option Next) (less : (s : Bool) (ts : List Left) (c : Next) → next s ts ≡ Some c → bound c.separated c.left < bound s ts) where
  -- beyond the bound, more turns give no more cells
  enough : (n m : ℕ) (s : Bool) (ts : List Left) → bound s ts ≤ n → bound s ts ≤ m → cells_up_to next n s ts ≡ cells_up_to next m s ts
  enough zero zero s ts h k = refl
  enough zero (suc m) s ts h k = sym (turn_none next m (next s ts) (λ c e. let l = less s ts c e in omega arith))
  enough (suc n) zero s ts h k = turn_none next n (next s ts) (λ c e. let l = less s ts c e in omega arith)
  enough (suc n) (suc m) s ts h k =
      turn_same next n m (next s ts) (λ c e. let l = less s ts c e in enough n m c.separated c.left (omega arith) (omega arith))

  -- a cell, then the cells of what it leaves
  pub cells_some : (s : Bool) (ts : List Left) (c : Next) → next s ts ≡ Some c → cells_of next s ts ≡ c.cell ∷ cells_of next c.separated c.left
  cells_some s ts c e =
      let l = less s ts c e in
      let n : bound s ts ≡ suc (bound s ts - 1) = omega arith in
      ap (λ (k : ℕ). cells_up_to next k s ts) n
      ∙ ap (turn next (bound s ts - 1)) e
      ∙ ap (λ (x : List RawCell). c.cell ∷ x) (enough (bound s ts - 1) (bound c.separated c.left) c.separated c.left (omega arith) (omega arith))
