-- The first piece of a text or item of a list, and those behind it.
-- Assumes nothing.
use Rattle.std.proofs.Common.{◌≡◌, ℕ, ◌+◌, ◌≤◌, Bool, true, false, cond, not, eqb, Option, Some, None, List, [], ◌∷◌, length, take, drop, inl, inr, sym, refl, ap, ◌∙◌, one-add, arith}
use Rattle.std.specs.List.{onto_first}
use Rattle.std.specs.Slice.{IsGetRangeResult}
use Rattle.std.proofs.lemmas.List.{nil_from_length, take_all}
use Rattle.document.specs.Bytes.{before}
use Rattle.document.specs.Pieces.{pieces, behind}
use Rattle.document.specs.Attributes.{ends_item, after, item_size, items, items_behind, items_left}
use Rattle.document.specs.declared.attributes.Spot.{Spot}
use Rattle.document.specs.declared.attributes.Spot.TheVariants.{Front}
use denote.Ref.{Bor}

pub pieces_cut : (b : ℕ) (xs : List ℕ) → pieces b xs ≡ take (before b xs) xs ∷ behind b (drop (before b xs) xs)
pieces_cut b [] = refl
pieces_cut b (x ∷ xs) = go (eqb x b) (pieces_cut b xs)
  where
    go : (t : Bool) → pieces b xs ≡ take (before b xs) xs ∷ behind b (drop (before b xs) xs)
        → cond t ([] ∷ pieces b xs) (onto_first x (pieces b xs))
        ≡ take (cond (not t) (1 + before b xs) 0) (x ∷ xs) ∷ behind b (drop (cond (not t) (1 + before b xs) 0) (x ∷ xs))
    go true e = refl
    go false e = ap (onto_first x) e ∙ ap (λ (n : ℕ). take n (x ∷ xs) ∷ behind b (drop n (x ∷ xs))) (sym (one-add (before b xs)))

pub items_cut : (s : Spot) (xs : List ℕ) → items s xs ≡ take (item_size s xs) xs ∷ items_behind (drop (item_size s xs) xs)
items_cut s [] = refl
items_cut s (x ∷ xs) = go (ends_item s x) (items_cut (after s x) xs)
  where
    go : (t : Bool) → items (after s x) xs ≡ take (item_size (after s x) xs) xs ∷ items_behind (drop (item_size (after s x) xs) xs)
        → cond t ([] ∷ items Front xs) (onto_first x (items (after s x) xs))
        ≡ take (cond t 0 (1 + item_size (after s x) xs)) (x ∷ xs) ∷ items_behind (drop (cond t 0 (1 + item_size (after s x) xs)) (x ∷ xs))
    go true e = refl
    go false e = ap (onto_first x) e ∙ ap (λ (n : ℕ). take n (x ∷ xs) ∷ items_behind (drop n (x ∷ xs))) (sym (one-add (item_size (after s x) xs)))

-- what is left behind a comma, or nothing where there is none
left_behind : (more : List ℕ) (r : Option (Bor (List ℕ))) → IsGetRangeResult more 1 (length more) r → items_behind more ≡ items_left (record { 0 = r })
left_behind more None (inl h, g) = ap items_behind (nil_from_length more (omega arith))
left_behind more None (inr h, g) = absurd (omega arith)
left_behind [] (Some x) g = absurd (omega (arith, g.0.0))
left_behind (y ∷ ys) (Some x) g = sym (ap (items Front) (g.0.2 ∙ take_all _ ys (omega arith)))

-- the first item, and those that are left
pub items_next : (list item more : List ℕ) (n : ℕ) (r : Option (Bor (List ℕ))) → n ≡ item_size Front list → item ≡ take n list → more ≡ drop n list
    → IsGetRangeResult more 1 (length more) r → items Front list ≡ item ∷ items_left (record { 0 = r })
items_next list item more n r e f m g =
    items_cut Front list
    ∙ ap (λ (k : ℕ). take k list ∷ items_behind (drop k list)) (sym e)
    ∙ ap (λ (l : List ℕ). l ∷ items_behind (drop n list)) (sym f)
    ∙ ap (λ (l : List ℕ). item ∷ items_behind l) (sym m)
    ∙ ap (λ (ls : List (List ℕ)). item ∷ ls) (left_behind more r g)

-- a list has at most one item more than bytes
pub length-items : (s : Spot) (xs : List ℕ) → length (items s xs) ≤ length xs + 1
length-items s [] = omega arith
length-items s (x ∷ xs) = go (ends_item s x) (length-items Front xs) (length-items (after s x) xs)
  where
    onto : (ls : List (List ℕ)) (n : ℕ) → length ls ≤ n + 1 → length (onto_first x ls) ≤ n + 1
    onto [] n h = omega arith
    onto (l ∷ ls) n h = h

    go : (t : Bool) → length (items Front xs) ≤ length xs + 1 → length (items (after s x) xs) ≤ length xs + 1
        → length (cond t ([] ∷ items Front xs) (onto_first x (items (after s x) xs))) ≤ length (x ∷ xs) + 1
    go true h k = omega arith
    go false h k = omega (arith, onto (items (after s x) xs) (length xs) k)
