-- A cut that is refused.
-- Assumes nothing.
use Rattle.std.proofs.Common.{◌≡◌, ◌+◌, ◌<◌, List, ◌∷◌, length, Ok, Err, Option, Result, refl}
use Rattle.std.proofs.lemmas.Bool.{false≢true}
use Rattle.std.specs.Result.{IsErr}
use Rattle.store.specs.Changes.{Same}
use Rattle.store.specs.Entries.{entries, room}
use Rattle.store.specs.declared.list.Store.{Store}
use Rattle.sheet.specs.declared.records.Piece.{Piece}
use Rattle.sheet.specs.declared.records.Position.{Position}
use Rattle.cut.specs.Answer.{CutAnswer}
use Rattle.cut.specs.Raw.{RawCell}
use Rattle.cut.specs.declared.types.Cut.{Cut}
use Rattle.cut.specs.declared.types.CutRefusal.{CutRefusal}
use Rattle.cut.specs.declared.types.CutRefusal.TheVariants.{NoRoom}
use Rattle.cut.specs.declared.types.Note.{Note}

-- where the pieces of the cell in front do not fit and nothing has changed, a refusal is the answer
pub refused : (from : Position → List RawCell) (cs rest : List RawCell) (raw : RawCell) (p p' : Store Piece) (n n' : Store Note) (r : Result (Option Cut) CutRefusal)
    → IsErr r → cs ≡ raw ∷ rest → room p < length (entries p) + length raw.pieces → Same p p' → Same n n' → CutAnswer from cs p p' n n' r
refused from cs rest raw p p' n n' (Ok o) e c l s t = absurd (false≢true e)
refused from cs rest raw p p' n n' (Err NoRoom) e c l s t = (raw, rest, c, l, refl, s, t)
