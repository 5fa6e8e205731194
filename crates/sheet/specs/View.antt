-- What a sheet holds, and what a piece is on it.
-- Assumes nothing.
use Rattle.std.specs.Prelude.{ℕ, ◌+◌, Bool, false, cond, List, take, drop, Some, None, Option, ◌==◌, nat_le}
use Rattle.std.specs.List.{slice_get}
use Rattle.std.specs.Option.{option_map}
use Rattle.sheet.specs.Kinds.{newline, word}
use Rattle.sheet.specs.Sound.{text_of}
use Rattle.sheet.specs.declared.page.Sheet.{Sheet}
use Rattle.sheet.specs.declared.records.Piece.{Piece}
use Rattle.sheet.specs.declared.records.Token.{Token}

-- the two texts and the tokens
pub record SheetView : Type 0 where
  pub page : List ℕ
  pub replacement : List ℕ
  pub tokens : List Token

abbrev pub view : Sheet → SheetView
view s = record { page = s.page.now; replacement = s.replacement.now; tokens = s.tokens.now }

-- a piece ends no later than its token
abbrev pub inside : Piece → Token → Bool
inside p t = nat_le (p.offset + p.length) t.length

-- the bytes of a token from an offset on, so many as the piece has
abbrev pub part_of : List ℕ → List ℕ → Token → Piece → List ℕ
part_of page replacement t p = take p.length (drop (t.start + p.offset) (text_of page replacement t.replaced))

-- what is left of a token behind dropped bytes is a Word
abbrev pub kind_from : ℕ → ℕ → ℕ
kind_from offset kind = cond (offset == 0) kind word

-- a token, if a piece lies inside it
abbrev pub if_inside : Piece → Option Token → Option Token
if_inside p None = None
if_inside p (Some t) = cond (inside p t) (Some t) None

-- the token that a piece lies inside: the one of its number, if the piece ends no later than that
abbrev pub around : SheetView → Piece → Option Token
around v p = if_inside p (slice_get v.tokens p.token)

-- the bytes of a piece: a part of the page, or of the replacement text where its token is replaced; a piece that lies
-- inside no token has none
abbrev pub piece_bytes : SheetView → Piece → Option (List ℕ)
piece_bytes v p = option_map (λ t. part_of v.page v.replacement t p) (around v p)

-- the kind of a piece: its token's where it begins at the token's front, else Word; a piece that lies inside no token
-- has none
abbrev pub piece_kind : SheetView → Piece → Option ℕ
piece_kind v p = option_map (λ t. kind_from p.offset t.kind) (around v p)

abbrev pub kind_is : ℕ → Option ℕ → Bool
kind_is k None = false
kind_is k (Some j) = j == k

-- a piece that is a Newline
abbrev pub is_newline_piece : SheetView → Piece → Bool
is_newline_piece v p = kind_is newline (piece_kind v p)
