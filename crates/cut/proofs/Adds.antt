-- What is added to a list as far as it fits.
-- Assumes nothing.
use Rattle.std.proofs.Common.{◌≡◌, ℕ, zero, suc, ◌-◌, List, [], ◌∷◌, ◌++◌, length, take, sym, refl, ap, ◌∙◌, append_assoc, append-nil, arith}
use Rattle.std.proofs.lemmas.List.{take_all, length-append}
use Rattle.store.specs.Changes.{Same, Added}
use Rattle.store.specs.Entries.{entries, room}
use Rattle.store.specs.declared.list.Store.{Store}
use Rattle.cut.specs.Fitting.{AddedAsFit}

pub unchanged : {A : Type 0} (s : Store A) → Same s s
unchanged s = record { entries = refl; room = refl }

-- nothing to add
pub added_none : {A : Type 0} (n : ℕ) (s : Store A) → Added s s (take n [])
added_none {A = A} n s = record { entries = sym (ap (λ (x : List A). entries s ++ x) (take_all n [] (omega arith)) ∙ append-nil (entries s)); room = refl }

-- what fits of two lists: what fits of the first, then of the second
take_two : {A : Type 0} (n : ℕ) (xs ys : List A) → take n (xs ++ ys) ≡ take n xs ++ take (n - length (take n xs)) ys
take_two zero [] ys = refl
take_two zero (x ∷ xs) ys = refl
take_two (suc n) [] ys = let e : suc n ≡ suc n - 0 = omega arith in ap (λ (k : ℕ). take k ys) e
take_two {A = A} (suc n) (x ∷ xs) ys =
    let e : n - length (take n xs) ≡ suc n - suc (length (take n xs)) = omega arith in
    ap (λ (zs : List A). x ∷ zs) (take_two n xs ys ∙ ap (λ (k : ℕ). take n xs ++ take k ys) e)

-- what fits of one list and then of another is what fits of both
pub added_two : {A : Type 0} (s t u : Store A) (xs ys : List A) → AddedAsFit s t xs → AddedAsFit t u ys → AddedAsFit s u (xs ++ ys)
added_two {A = A} s t u xs ys a b =
    let n = room s - length (entries s) in
    let l = ap length a.entries ∙ length-append (entries s) (take (room s - length (entries s)) xs) in
    let r = a.room in
    let k : room t - length (entries t) ≡ room s - length (entries s) - length (take (room s - length (entries s)) xs) = omega arith in
    record {
      entries = b.entries
          ∙ ap (λ (zs : List A). zs ++ take (room t - length (entries t)) ys) a.entries
          ∙ append_assoc (entries s) (take n xs) (take (room t - length (entries t)) ys)
          ∙ ap (λ (j : ℕ). entries s ++ (take n xs ++ take j ys)) k
          ∙ ap (λ (zs : List A). entries s ++ zs) (sym (take_two n xs ys));
      room = b.room ∙ a.room;
    }
