-- Whether the first paragraph of some lines is one line, by which of them are blank.
-- Assumes nothing.
use Rattle.std.proofs.Common.{◌≡◌, ℕ, ◌+◌, Bool, true, false, cond, Option, Some, None, List, [], ◌∷◌, map, drop, unwrap_or, sym, refl, ap, ◌∙◌, one-add}
use Rattle.std.specs.List.{prefix_len}
use Rattle.std.specs.Option.{is_some}
use Rattle.std.specs.Fn.{CalledAt}
use Rattle.std.specs.Iterator.{AlwaysYields}
use Rattle.std.specs.Iterator.Adapters.{skip_while_source, skip_while_callee, skip_while_done_skipping, skip_while_steps}
use Rattle.std.specs.declared.iter.SkipWhile.{SkipWhile}
use Rattle.std.proofs.lemmas.Iterator.Consumers.{YieldsList-at}
use Rattle.std.proofs.lemmas.Iterator.Adapters.{YieldsList-from_skip_while}
use denote.Param.Members.{Mut}
use denote.Ref.{Bor}
use Rattle.std.proofs.lemmas.Iterator.{YieldsList}
use Rattle.document.specs.Tables.{is_blank_line, blank_next, one_first}

-- which lines are blank, from the first one on that is not
abbrev from_text : List (List ℕ) → List Bool
from_text ls = drop (prefix_len (λ b. b) (map is_blank_line ls)) (map is_blank_line ls)

-- of such lines, the first is there, and the next is blank or not there
abbrev is_alone : List Bool → Bool
is_alone [] = false
is_alone (b ∷ []) = true
is_alone (b ∷ c ∷ cs) = c

one_first-from_text : (ls : List (List ℕ)) → one_first ls ≡ is_alone (from_text ls)
one_first-from_text [] = refl
one_first-from_text (l ∷ ls) = go (is_blank_line l) (one_first-from_text ls)
  where
    next : (ms : List (List ℕ)) → blank_next ms ≡ is_alone (false ∷ map is_blank_line ms)
    next [] = refl
    next (m ∷ ms) = refl

    go : (t : Bool) → one_first ls ≡ is_alone (from_text ls) → cond t (one_first ls) (blank_next ls)
        ≡ is_alone (drop (cond t (1 + prefix_len (λ b. b) (map is_blank_line ls)) 0) (t ∷ map is_blank_line ls))
    go true e =
        e ∙ sym (ap (λ (n : ℕ). is_alone (drop n (true ∷ map is_blank_line ls))) (one-add (prefix_len (λ b. b) (map is_blank_line ls))))
    go false e = next ls

module _ {S : Type 0} {steps : S → Option Bool → S → Type 0} {s : S} {bs : List Bool} (e : YieldsList steps (λ b. b) s bs) (r : Option Bool) (t : S) (h : steps s r t) where
  nothing : is_some r ≡ false → false ≡ is_alone bs
  nothing n = go bs r e.runs h n
    where
      go : (bs : List Bool) (r : Option Bool) → AlwaysYields steps (λ b. b) s bs → steps s r t → is_some r ≡ false → false ≡ is_alone bs
      go [] r a k i = refl
      go (b ∷ bs) None a k i = absurd (a.0 t k)
      go (b ∷ bs) (Some x) a k i = cc

  second : is_some r ≡ true → (q : Option Bool) (u : S) → steps t q u → unwrap_or q true ≡ is_alone bs
  second n q u k = go bs r e.runs h n
    where
      next : (b : Bool) (bs : List Bool) (q : Option Bool) → AlwaysYields steps (λ b. b) t bs → steps t q u → unwrap_or q true ≡ is_alone (b ∷ bs)
      next b [] None a k = refl
      next b [] (Some y) a k = absurd (a y u k)
      next b (c ∷ cs) None a k = absurd (a.0 u k)
      next b (c ∷ cs) (Some y) a k = (a.1 y u k).0

      go : (bs : List Bool) (r : Option Bool) → AlwaysYields steps (λ b. b) s bs → steps s r t → is_some r ≡ true → unwrap_or q true ≡ is_alone bs
      go bs None a j i = cc
      go [] (Some x) a j i = absurd (a x t j)
      go (b ∷ bs) (Some x) a j i = next b bs q (a.1 x t j).1 k

-- what the items of a `skip_while` say of some lines: that it gives none, or what it gives second
module _ {S F : Type 0} {steps : S → Option Bool → S → Type 0} {g : Mut F (Bor Bool × Unit {0}) Bool} {f : F} {s : SkipWhile S F} (ls : List (List ℕ)) where
  chain : {from : S} (source : skip_while_source s ≡ from) (callee : skip_while_callee s ≡ f) (done : skip_while_done_skipping s ≡ false)
      (calls : (x b : Bool) (q : F) → CalledAt g f x b q → (q ≡ f) × (b ≡ x)) (e : YieldsList steps (λ b. b) from (map is_blank_line ls))
      → YieldsList (skip_while_steps steps g) (λ b. b) s (from_text ls)
  chain source callee done calls e = YieldsList-from_skip_while steps (λ b. b) g (λ b. b) f calls (YieldsList-at source e) callee done

  module _ (r : Option Bool) (t : SkipWhile S F) (h : skip_while_steps steps g s r t) {from : S} (source : skip_while_source s ≡ from)
      (callee : skip_while_callee s ≡ f) (done : skip_while_done_skipping s ≡ false)
      (calls : (x b : Bool) (q : F) → CalledAt g f x b q → (q ≡ f) × (b ≡ x)) (e : YieldsList steps (λ b. b) from (map is_blank_line ls)) where
    pub none_there : is_some r ≡ false → false ≡ one_first ls
    none_there n = nothing (chain source callee done calls e) r t h n ∙ sym (one_first-from_text ls)

    pub second_there : is_some r ≡ true → (q : Option Bool) (u : SkipWhile S F) → skip_while_steps steps g t q u → unwrap_or q true ≡ one_first ls
    second_there n q u k = second (chain source callee done calls e) r t h n q u k ∙ sym (one_first-from_text ls)
