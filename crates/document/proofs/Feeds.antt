-- A line and its line feed: where the next line begins, and how many line feeds stand before it.
-- Assumes nothing.
use Rattle.std.proofs.Common.{◌≡◌, ℕ, zero, suc, ◌+◌, ◌-◌, ◌<◌, ◌≤◌, Bool, true, false, cond, not, eqb, ◌⊎◌, List, [], ◌∷◌, ◌++◌, length, get_or, take, drop, sym, refl, ap, ◌∙◌, ⊎_elim, one-add, arith}
use lib.Seq.{take-append-add}
use Rattle.std.proofs.lemmas.List.{length-drop, length-take-le, get_or-drop, take-append-drop}
use Rattle.std.proofs.lemmas.List.Sums.{sum_by-cons, sum_by-append, prefix_len-le-length}
use Rattle.std.proofs.lemmas.Bool.{eqb-true, eqb-false, eq-eqb, or_right, or_cases, cases_order}
use Rattle.document.specs.Bytes.{before}
use Rattle.document.specs.Lines.{size_at, line_at, next_at, is_line_start, feeds}
use Rattle.document.specs.Blocks.{Stands, Missing}

-- the byte behind those before the first b is b
pub before_here : (b : ℕ) (xs : List ℕ) → before b xs < length xs → get_or xs (before b xs) 0 ≡ b
before_here b [] h = absurd (omega arith)
before_here b (x ∷ xs) h = go (eqb x b) refl h (before_here b xs)
  where
    go : (t : Bool) → eqb x b ≡ t → cond (not t) (1 + before b xs) 0 < length (x ∷ xs) → (before b xs < length xs → get_or xs (before b xs) 0 ≡ b)
        → get_or (x ∷ xs) (cond (not t) (1 + before b xs) 0) 0 ≡ b
    go true e l rest = eqb-true x b e
    go false e l rest = ap (λ (n : ℕ). get_or (x ∷ xs) n 0) (one-add (before b xs)) ∙ rest (omega arith)

-- none of the bytes before the first b is b
pub before_not : (b : ℕ) (xs : List ℕ) (k : ℕ) → k < before b xs → get_or xs k 0 ≡ b → ⊥
before_not b [] k h = absurd (omega arith)
before_not b (x ∷ xs) k h = go (eqb x b) refl (λ j. before_not b xs j) k h
  where
    go : (t : Bool) → eqb x b ≡ t → ((j : ℕ) → j < before b xs → get_or xs j 0 ≡ b → ⊥) → (k : ℕ) → k < cond (not t) (1 + before b xs) 0
        → get_or (x ∷ xs) k 0 ≡ b → ⊥
    go true e rest k l = absurd (omega arith)
    go false e rest zero l = λ (h : x ≡ b). eqb-false x b e h
    go false e rest (suc k) l = rest k (omega arith)

-- a line with its line feed has one
pub feeds_line : (xs : List ℕ) → before 10 xs < length xs → feeds (take (before 10 xs + 1) xs) ≡ 1
feeds_line [] h = absurd (omega arith)
feeds_line (x ∷ xs) h = go (eqb x 10) refl h (feeds_line xs)
  where
    go : (t : Bool) → eqb x 10 ≡ t → cond (not t) (1 + before 10 xs) 0 < length (x ∷ xs) → (before 10 xs < length xs → feeds (take (before 10 xs + 1) xs) ≡ 1)
        → feeds (take (cond (not t) (1 + before 10 xs) 0 + 1) (x ∷ xs)) ≡ 1
    go true e l rest = sum_by-cons (λ y. cond (eqb y 10) 1 0) x [] ∙ ap (λ (t : Bool). cond t 1 0 + 0) e
    go false e l rest =
        let n : 1 + before 10 xs + 1 ≡ suc (before 10 xs + 1) = omega arith in
        ap (λ (k : ℕ). feeds (take k (x ∷ xs))) n
        ∙ sum_by-cons (λ y. cond (eqb y 10) 1 0) x (take (before 10 xs + 1) xs)
        ∙ ap (λ (t : Bool). cond t 1 0 + feeds (take (before 10 xs + 1) xs)) e
        ∙ ap (λ (k : ℕ). 0 + k) (rest (omega arith))

take_more_of : (xs : List ℕ) (n m : ℕ) → n ≤ length xs → take (n + m) xs ≡ take n xs ++ take m (drop n xs)
take_more_of xs n m h =
    ap (take (n + m)) (sym (take-append-drop n xs))
    ∙ ap (λ (k : ℕ). take (k + m) (take n xs ++ drop n xs)) (sym (length-take-le n xs h))
    ∙ take-append-add (take n xs) (drop n xs) m

module _ (text : List ℕ) (at : ℕ) (inside : at < length text) where
  room : size_at text at + at ≤ length text
  room = omega (arith, prefix_len-le-length (λ x. not (eqb x 10)) (drop at text), length-drop at text)

  pub next_further : at < next_at text at
  next_further = omega (arith, room)

  pub next_within : next_at text at ≤ length text
  next_within = omega (arith, room)

  -- where a line is not the last, its line feed stands before the next
  ended : next_at text at < length text → size_at text at < length (drop at text)
  ended h = omega (arith, room, length-drop at text)

  next_is : next_at text at < length text → next_at text at ≡ at + (size_at text at + 1)
  next_is h = omega (arith, room)

  pub next_begins : next_at text at < length text → is_line_start text (next_at text at) ≡ true
  next_begins h =
      let last : next_at text at - 1 ≡ at + size_at text at = omega (arith, next_is h) in
      or_right (eqb (next_at text at) 0) _ (eq-eqb _ _
      (ap (λ (k : ℕ). get_or text k 0) last ∙ sym (get_or-drop at text (size_at text at) 0) ∙ before_here 10 (drop at text) (ended h)))

  pub next_feeds : next_at text at < length text → feeds (take (next_at text at) text) ≡ feeds (take at text) + 1
  next_feeds h =
      ap (λ (k : ℕ). feeds (take k text)) (next_is h)
      ∙ ap feeds (take_more_of text at (size_at text at + 1) (omega arith))
      ∙ sum_by-append (λ x. cond (eqb x 10) 1 0) (take at text) (take (size_at text at + 1) (drop at text))
      ∙ ap (λ (k : ℕ). feeds (take at text) + k) (feeds_line (drop at text) (ended h))

  -- no other line begins before the next
  pub no_start : (k : ℕ) → at < k → k < next_at text at → is_line_start text k ≡ true → ⊥
  no_start k l m e =
      let low : k - 1 - at < size_at text at = omega (arith, room) in
      let place : at + (k - 1 - at) ≡ k - 1 = omega arith in
      ⊎_elim
      (λ (z : eqb k 0 ≡ true). let n = eqb-true k 0 z in omega arith)
      (λ (f : eqb (get_or text (k - 1) 0) 10 ≡ true).
      before_not 10 (drop at text) (k - 1 - at) low
      (get_or-drop at text (k - 1 - at) 0 ∙ ap (λ (n : ℕ). get_or text n 0) place ∙ eqb-true _ _ f))
      (or_cases (eqb k 0) _ e)

  pub stands_next : (before : ℕ) → Stands text at before → Stands text (next_at text at) (before + 1)
  stands_next before s =
      record {
        within = next_within;
        few = omega (arith, next_further, s.few);
        begins = next_begins;
        counted = λ h. ap (λ (k : ℕ). k + 1) (s.counted inside) ∙ sym (next_feeds h);
      }

  pub missing_next : (opening : List ℕ) (from : ℕ) → Missing text opening from at → (line_at text at ≡ opening → ⊥) → Missing text opening from (next_at text at)
  missing_next opening from old other k l m e same =
      ⊎_elim
      (λ (z : k ≡ at). other (ap (line_at text) (sym z) ∙ same))
      (λ (z : (k < at) ⊎ (at < k)). ⊎_elim (λ (b : k < at). old k l b e same) (λ (b : at < k). no_start k b m e) z)
      (cases_order k at)
