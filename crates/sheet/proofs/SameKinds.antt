-- Kinds by their numbers.
-- Assumes nothing.
use Rattle.std.proofs.Common.{◌≡◌, ℕ, eqb, ap, ◌∙◌, rules}
use denote.Enum.Bare.{sameb}
use denote.Enum.Declared.{tag_of}
use Rattle.sheet.specs.Kinds.{number_of}
use Rattle.sheet.specs.declared.kind.Kind.{Kind}
use Rattle.sheet.specs.contracts.kind.Kind.{the_type}

-- the place of a kind among the variants is its number
place_is_number : (k : Kind) → tag_of the_type k ≡ number_of k
place_is_number k = search rules

-- so two kinds are one exactly when their numbers are
pub same_by_number : (j k : Kind) → sameb the_type j k ≡ eqb (number_of j) (number_of k)
same_by_number j k = ap (λ (n : ℕ). eqb n (tag_of the_type k)) (place_is_number j) ∙ ap (eqb (number_of j)) (place_is_number k)
