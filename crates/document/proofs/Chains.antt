-- What chains of iterators come to: a `fold` by what each step keeps, and the count of a `take_while`.
-- Assumes nothing.
use Rattle.std.proofs.Common.{◌≡◌, ℕ, Bool, true, false, Option, List, [], ◌∷◌, ◌++◌, length, ◌∙◌}
use Rattle.std.specs.Fn.{Called}
use Rattle.std.specs.Iterator.{Drains}
use Rattle.std.specs.List.{FoldsTo}
use Rattle.std.proofs.lemmas.Fn.{fold_over}
use Rattle.std.proofs.lemmas.Iterator.{YieldsList}
use Rattle.std.specs.Fn.{CalledAt}
use Rattle.std.specs.declared.iter.TakeWhile.{TakeWhile}
use Rattle.std.specs.Iterator.Adapters.{take_while_source, take_while_callee, take_while_done, take_while_steps}
use Rattle.std.specs.List.{prefix_len}
use Rattle.std.proofs.lemmas.Iterator.Consumers.{YieldsList-at, count_from_yields_List}
use Rattle.std.proofs.lemmas.Iterator.Search.{YieldsList-from_take_while}
use Rattle.std.proofs.lemmas.List.Folds.{length-prefix_len}
use denote.Param.Members.{Mut}
use denote.Ref.{Bor}

-- what holds of no items and the first value, and is kept as an item is taken, holds of all items and the last value
pub fold_keeps : {S A B F C : Type 0} {steps : S → Option A → S → Type 0} {v : A → B} {g : Mut F (C × (A × Unit {0})) C} {f : F} {s : S} {all : List B} {a r : C}
    → (J : List B → C → Type 0)
    → (xs : List A) × (f' : F) × Drains steps s xs × FoldsTo {P = F × C} (λ p x q. Called g p.0 (p.1, (x, tt)) q.1 q.0) (f, a) xs (f', r)
    → YieldsList steps v s all → J [] a
    → ((ys : List B) (a : C) (x : A) (b : C) (f' : F) → J ys a → Called g f (a, (x, tt)) b f' → J (ys ++ (v x ∷ [])) b × (f' ≡ f))
    → J all r
fold_keeps {S} {A} {B} {F} {C} {steps} {v} {g} {f} {s} {all} {a} {r} J ran e first step = fold_over steps v g J f step s all a r e.runs first ran

-- how many items stand before the first that fails a test
pub count_while : {S A B F : Type 0} {steps : S → Option A → S → Type 0} {v : A → B} {g : Mut F (Bor A × Unit {0}) Bool} {f : F} {s : TakeWhile S F} {t : S} {r : ℕ}
    → (test : B → Bool) (ys : List B)
    → (xs : List A) × Drains (take_while_steps steps g) s xs × (r ≡ length xs)
    → take_while_source s ≡ t → take_while_callee s ≡ f → take_while_done s ≡ false → YieldsList steps v t ys
    → ((x : A) (b : Bool) (q : F) → CalledAt g f x b q → (q ≡ f) × (b ≡ test (v x)))
    → r ≡ prefix_len test ys
count_while {g = g} {s = s} {r = r} test ys ran source callee done e calls =
    count_from_yields_List s r ran (YieldsList-from_take_while g test (YieldsList-at source e) callee done calls) ∙ length-prefix_len test ys
