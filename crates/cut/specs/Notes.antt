-- The notes that the cutters of this crate give, by their numbers.
-- Assumes nothing.
use Rattle.std.specs.Prelude.{◌≡◌, ℕ, Result, MatchResult, ◌≢◌}
use Rattle.cut.specs.declared.notes.NoteKind.{NoteKind}
use Rattle.cut.specs.declared.notes.NoteKind.TheVariants.{NoStart, StrayQuote, OpenQuote}
use Rattle.cut.specs.declared.notes.UnknownNote.{UnknownNote}

abbrev pub number_of : NoteKind → ℕ
number_of NoStart = 1
number_of StrayQuote = 3
number_of OpenQuote = 4

-- the note of a number, or an error with a number that none of them has
abbrev pub Numbered : ℕ → Result NoteKind UnknownNote → Type 0
Numbered n r = MatchResult r (λ k. number_of k ≡ n) (λ e. (e.0 ≡ n) × (n ≢ 1) × (n ≢ 3) × (n ≢ 4))
