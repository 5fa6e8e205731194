use Rattle.std.proofs.Common.{◌≡◌, ℕ, ◌+◌, ◌-◌, ◌*◌, List, [], ◌∷◌, ◌++◌, refl, arith, rules}
use Rattle.std.proofs.lemmas.Iterator.{YieldsList-from_slice}
use Rattle.std.proofs.lemmas.List.Sums.{fold-append}
use Rattle.document.specs.Bytes.{with_digit, value_of}
use Rattle.document.proofs.Chains.{fold_keeps}
use Rattle.document.proofs.bytes.value_of.Goals as goal

-- one more digit behind the others
more : (ds : List ℕ) (d n m : ℕ) → n ≡ value_of ds → m ≡ with_digit n d → m ≡ value_of (ds ++ d ∷ [])
more ds d n m h e = let f = fold-append (λ v d. v * 10 + (d - 48)) 0 ds (d ∷ []) in omega arith

pub returns : goal.returns
returns c =
    fold_keeps (λ ds n. n ≡ value_of ds) c.fold.ensures.ran (YieldsList-from_slice c.args.digits.now cc) refl
    (λ ds n d m f h k. (more ds d.now n m h (search rules), search rules))
