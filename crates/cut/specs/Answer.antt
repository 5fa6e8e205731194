-- What a cut answers, and the laws of what a cutter means.
-- Assumes nothing.
use Rattle.std.specs.Prelude.{◌≡◌, ◌+◌, ◌-◌, ◌<◌, ◌≤◌, List, [], ◌∷◌, length, take, Some, None, Ok, Err, Option, Result}
use Rattle.std.specs.List.{AllByRecursion}
use Rattle.store.specs.Changes.{Same, Added}
use Rattle.store.specs.Entries.{entries, room}
use Rattle.store.specs.declared.list.Store.{Store}
use Rattle.sheet.specs.Left.{left, front_number}
use Rattle.sheet.specs.Refusals.{Told}
use Rattle.sheet.specs.View.{SheetView}
use Rattle.sheet.specs.declared.records.Piece.{Piece}
use Rattle.sheet.specs.declared.records.Position.{Position}
use Rattle.cut.specs.Insides.{Inside}
use Rattle.cut.specs.Raw.{RawCell}
use Rattle.cut.specs.Scanned.{head_of}
use Rattle.cut.specs.declared.types.Cut.{Cut}
use Rattle.cut.specs.declared.types.CutRefusal.{CutRefusal}
use Rattle.cut.specs.declared.types.CutRefusal.TheVariants.{NoRoom}
use Rattle.cut.specs.declared.types.CutterRefusal.{CutterRefusal}
use Rattle.cut.specs.declared.types.CutterRefusal.TheVariants.{BadSeparator}
use Rattle.cut.specs.declared.types.Note.{Note}

-- 33: the pieces of the cell do not fit
abbrev pub cut_told : CutRefusal → Told
cut_told NoRoom = record { number = 33; values = [] }

-- 2: the separator is not one that a cutter can have
abbrev pub cutter_told : CutterRefusal → Told
cutter_told BadSeparator = record { number = 2; values = [] }

-- what a cut tells is what the raw cell has
pub record Tells (cut : Cut) (raw : RawCell) : Type 0 where
  pub first : cut.first ≡ raw.first
  pub specifier : cut.specifier ≡ raw.specifier
  pub line_end : cut.line_end ≡ raw.line_end
  pub blank_after : cut.blank_after ≡ raw.blank_after
  pub blank_inside : cut.blank_inside ≡ raw.blank_inside
  pub notes : cut.notes ≡ length raw.notes
  pub first_note : cut.first_note ≡ head_of raw.notes

-- What a cut answers where the cells from its position on are cs, and from says what they are at any position.
-- None, and nothing changed: there is no cell. A cut: it is the first of them, its pieces stand behind those in use, its
-- notes likewise as far as they fit, and the rest of the cells are those at the position told. Refused 33, and nothing
-- changed: the pieces of the first do not fit.
abbrev pub CutAnswer : (Position → List RawCell) → List RawCell → Store Piece → Store Piece → Store Note → Store Note → Result (Option Cut) CutRefusal → Type 0
CutAnswer from cs p p' n n' (Ok None) = (cs ≡ []) × Same p p' × Same n n'
CutAnswer from cs p p' n n' (Ok (Some cut)) =
    (raw : RawCell) × (cs ≡ raw ∷ from cut.rest) × Tells cut raw × Added p p' raw.pieces × Added n n' (take (room n - length (entries n)) raw.notes)
CutAnswer from cs p p' n n' (Err why) =
    (raw : RawCell) × (rest : List RawCell) × (cs ≡ raw ∷ rest) × (room p < length (entries p) + length raw.pieces) × ((cut_told why).number ≡ 33) × Same p p' × Same n n'

-- the first cell begins at the position's token, or at the token count where nothing is left
abbrev pub FirstIs : SheetView → Position → List RawCell → Type 0
FirstIs v p [] = Unit {0}
FirstIs v p (raw ∷ rest) = raw.first ≡ front_number (length v.tokens) (left v p.token p.offset)

-- each piece of a raw cell lies inside a token, and its spans count
pub record Fits (v : SheetView) (raw : RawCell) : Type 0 where
  pub inside : AllByRecursion (Inside v) raw.pieces
  pub columns : 1 ≤ raw.specifier.columns
  pub rows : 1 ≤ raw.specifier.rows
