-- Nine pages and their cells, computed from tokens by the definitions.
-- A page is its text and its tokens, each a kind and a length; a cell is shown by its factor, its spans and its text.
-- Assumes nothing.
use Rattle.std.specs.Prelude.{◌≡◌, ℕ, ◌+◌, false, List, [], ◌∷◌, map, Some, None, codes, Option}
use Rattle.std.specs.List.{flat_map}
use Rattle.sheet.specs.Kinds.{comma, digits, dots, double_quote, newline, pipe, plus, star, whitespace, word}
use Rattle.sheet.specs.View.{SheetView, piece_bytes}
use Rattle.sheet.specs.declared.records.Position.{Position}
use Rattle.sheet.specs.declared.records.Token.{Token}
use Rattle.cut.specs.Csv.{csv_role, csv_begin}
use Rattle.cut.specs.Fields.{fields}
use Rattle.cut.specs.Prefix.{prefix_cells}
use Rattle.cut.specs.Raw.{RawCell}
use Rattle.cut.specs.Separators.{separator_of}

-- tokens one behind the other, from a place on
abbrev pub tokens_from : ℕ → List (ℕ × ℕ) → List Token
tokens_from at [] = []
tokens_from at (t ∷ ts) = record { kind = t.0; replaced = false; start = at; length = t.1 } ∷ tokens_from (at + t.1) ts

abbrev pub page_of : List ℕ → List (ℕ × ℕ) → SheetView
page_of text ts = record { page = text; replacement = []; tokens = tokens_from 0 ts }

abbrev pub beginning : Position
beginning = record { token = 0; offset = 0; separated = false }

abbrev pub bytes_in : Option (List ℕ) → List ℕ
bytes_in None = []
bytes_in (Some bs) = bs

-- a cell as it is shown here
pub record Shown : Type 0 where
  pub factor : ℕ
  pub columns : ℕ
  pub rows : ℕ
  pub text : List ℕ

abbrev pub show : SheetView → RawCell → Shown
show v c = record { factor = c.specifier.factor; columns = c.specifier.columns; rows = c.specifier.rows; text = flat_map (λ p. bytes_in (piece_bytes v p)) c.pieces }

-- the cells of a page with `|` in front of each, and of a page of comma-separated values
abbrev pub prefix_shown : SheetView → List Shown
prefix_shown v = map (show v) (prefix_cells 124 v beginning)

abbrev pub csv_shown : SheetView → List Shown
csv_shown v = map (show v) (fields (csv_role (separator_of 44)) csv_begin v beginning)

abbrev pub written : ℕ → ℕ → ℕ → List ℕ → Shown
written f c r text = record { factor = f; columns = c; rows = r; text = text }

-- a cell with nothing written
abbrev pub bare : List ℕ → Shown
bare = written 1 1 1

abbrev pub cell_tokens : List (ℕ × ℕ)
cell_tokens = (pipe, 1) ∷ (word, 1) ∷ []

abbrev pub page1 : SheetView
page1 = page_of (codes "4*|a |b |c |d")
    ((digits, 1) ∷ (star, 1) ∷ (pipe, 1) ∷ (word, 1) ∷ (whitespace, 1) ∷ (pipe, 1) ∷ (word, 1) ∷ (whitespace, 1) ∷ (pipe, 1) ∷ (word, 1) ∷ (whitespace, 1) ∷ cell_tokens)

abbrev pub page2 : SheetView
page2 = page_of (codes "|a |b .3+|c .2+|d .2+|e |f |g")
    ((pipe, 1) ∷ (word, 1) ∷ (whitespace, 1) ∷ (pipe, 1) ∷ (word, 1) ∷ (whitespace, 1)
    ∷ (dots, 1) ∷ (digits, 1) ∷ (plus, 1) ∷ (pipe, 1) ∷ (word, 1) ∷ (whitespace, 1)
    ∷ (dots, 1) ∷ (digits, 1) ∷ (plus, 1) ∷ (pipe, 1) ∷ (word, 1) ∷ (whitespace, 1)
    ∷ (dots, 1) ∷ (digits, 1) ∷ (plus, 1) ∷ (pipe, 1) ∷ (word, 1) ∷ (whitespace, 1)
    ∷ (pipe, 1) ∷ (word, 1) ∷ (whitespace, 1) ∷ cell_tokens)

abbrev pub page3 : SheetView
page3 = page_of (codes "4+|a |b |c |d")
    ((digits, 1) ∷ (plus, 1) ∷ (pipe, 1) ∷ (word, 1) ∷ (whitespace, 1) ∷ (pipe, 1) ∷ (word, 1) ∷ (whitespace, 1) ∷ (pipe, 1) ∷ (word, 1) ∷ (whitespace, 1) ∷ cell_tokens)

abbrev pub page4 : SheetView
page4 = page_of (codes "3+|a") ((digits, 1) ∷ (plus, 1) ∷ cell_tokens)

abbrev pub page5 : SheetView
page5 = page_of (codes "2.2+|a") ((digits, 1) ∷ (dots, 1) ∷ (digits, 1) ∷ (plus, 1) ∷ cell_tokens)

abbrev pub page6 : SheetView
page6 = page_of (codes "|x 256*|a") ((pipe, 1) ∷ (word, 1) ∷ (whitespace, 1) ∷ (digits, 3) ∷ (star, 1) ∷ cell_tokens)

-- `a,b,` Newline `c,d,e` Newline
abbrev pub page7 : SheetView
page7 = page_of (97 ∷ 44 ∷ 98 ∷ 44 ∷ 10 ∷ 99 ∷ 44 ∷ 100 ∷ 44 ∷ 101 ∷ 10 ∷ [])
    ((word, 1) ∷ (comma, 1) ∷ (word, 1) ∷ (comma, 1) ∷ (newline, 1) ∷ (word, 1) ∷ (comma, 1) ∷ (word, 1) ∷ (comma, 1) ∷ (word, 1) ∷ (newline, 1) ∷ [])

-- `a` Newline `b,c` Newline
abbrev pub page8 : SheetView
page8 = page_of (97 ∷ 10 ∷ 98 ∷ 44 ∷ 99 ∷ 10 ∷ []) ((word, 1) ∷ (newline, 1) ∷ (word, 1) ∷ (comma, 1) ∷ (word, 1) ∷ (newline, 1) ∷ [])

-- `"x ""y""" ,z`
abbrev pub page9 : SheetView
page9 = page_of (34 ∷ 120 ∷ 32 ∷ 34 ∷ 34 ∷ 121 ∷ 34 ∷ 34 ∷ 34 ∷ 32 ∷ 44 ∷ 122 ∷ [])
    ((double_quote, 1) ∷ (word, 1) ∷ (whitespace, 1) ∷ (double_quote, 1) ∷ (double_quote, 1) ∷ (word, 1)
    ∷ (double_quote, 1) ∷ (double_quote, 1) ∷ (double_quote, 1) ∷ (whitespace, 1) ∷ (comma, 1) ∷ (word, 1) ∷ [])

-- what the definitions give
pub record PagesStand : Type 0 where
  -- a factor
  pub copied : prefix_shown page1 ≡ written 4 1 1 (codes "a") ∷ bare (codes "b") ∷ bare (codes "c") ∷ bare (codes "d") ∷ []
  -- row spans
  pub spanned : prefix_shown page2 ≡ bare (codes "a") ∷ bare (codes "b") ∷ written 1 1 3 (codes "c") ∷ written 1 1 2 (codes "d") ∷ written 1 1 2 (codes "e") ∷ bare (codes "f") ∷ bare (codes "g") ∷ []
  -- column spans
  pub wide : prefix_shown page3 ≡ written 1 4 1 (codes "a") ∷ bare (codes "b") ∷ bare (codes "c") ∷ bare (codes "d") ∷ []
  pub alone : prefix_shown page4 ≡ written 1 3 1 (codes "a") ∷ []
  -- both
  pub both : prefix_shown page5 ≡ written 1 2 2 (codes "a") ∷ []
  -- a factor above 255 is text
  pub large : prefix_shown page6 ≡ bare (codes "x 256*") ∷ bare (codes "a") ∷ []
  -- a separator at a line's end owes an empty field
  pub owed : csv_shown page7 ≡ bare (codes "a") ∷ bare (codes "b") ∷ bare [] ∷ bare (codes "c") ∷ bare (codes "d") ∷ bare (codes "e") ∷ []
  -- a line end ends a field
  pub lines : csv_shown page8 ≡ bare (codes "a") ∷ bare (codes "b") ∷ bare (codes "c") ∷ []
  -- quotes, and a quote in quotes
  pub quoted : csv_shown page9 ≡ bare (120 ∷ 32 ∷ 34 ∷ 121 ∷ 34 ∷ []) ∷ bare (codes "z") ∷ []
