-- The tokens that are left at a place of a sheet.
-- A place is a token number and an offset into that token. A place off its sheet is its end: nothing is left there.
-- Assumes nothing.
use Rattle.std.specs.Prelude.{ℕ, ◌+◌, ◌-◌, Bool, cond, not, ◌&&◌, List, [], ◌∷◌, length, take, drop, ◌==◌, nat_lt}
use Rattle.sheet.specs.Kinds.{number_of}
use Rattle.sheet.specs.Sound.{text_of}
use Rattle.sheet.specs.View.{SheetView, kind_from}
use Rattle.sheet.specs.declared.records.Piece.{Piece}
use Rattle.sheet.specs.declared.records.Place.{Place}
use Rattle.sheet.specs.declared.seen.Seen.{Seen}
use Rattle.sheet.specs.declared.records.Token.{Token}

-- a token that is left, whole or in part: its number, where in it the part begins, and what stands there
pub record Left : Type 0 where
  pub number : ℕ
  pub offset : ℕ
  pub kind : ℕ
  pub replaced : Bool
  pub bytes : List ℕ

-- the token t, which has the number i, from an offset on
abbrev pub token_from : SheetView → ℕ → ℕ → Token → Left
token_from v i o t = record {
  number = i;
  offset = o;
  kind = kind_from o t.kind;
  replaced = t.replaced;
  bytes = take (t.length - o) (drop (t.start + o) (text_of v.page v.replacement t.replaced));
}

-- whole tokens, the first of which has the number i
abbrev pub wholes : SheetView → ℕ → List Token → List Left
wholes v i [] = []
wholes v i (t ∷ ts) = token_from v i 0 t ∷ wholes v (i + 1) ts

-- tokens, the first of which has the number i and is left from an offset on
abbrev pub left_from : SheetView → ℕ → ℕ → List Token → List Left
left_from v i o [] = []
left_from v i o (t ∷ ts) = cond (nat_lt o t.length) (token_from v i o t ∷ wholes v (i + 1) ts) []

abbrev pub left : SheetView → ℕ → ℕ → List Left
left v i o = left_from v i o (drop i v.tokens)

-- the tokens that are left at a place
abbrev pub left_at : SheetView → Place → List Left
left_at v p = left v p.token p.offset

-- what the code sees at a place, as a token that is left
abbrev pub seen_at : Seen → Left
seen_at s = record { number = s.place.token; offset = s.place.offset; kind = number_of s.kind; replaced = s.replaced; bytes = s.bytes.now }

-- an unreplaced token of a kind
abbrev pub plain : ℕ → Left → Bool
plain k t = not t.replaced && t.kind == k

-- a token that is left, as a piece
abbrev pub piece_of : Left → Piece
piece_of t = record { token = t.number; offset = t.offset; length = length t.bytes }

-- a token that is left, without its first n bytes: a Word, if there are any
abbrev pub back_of : ℕ → Left → Left
back_of n t = record {
  number = t.number;
  offset = t.offset + n;
  kind = kind_from (t.offset + n) t.kind;
  replaced = t.replaced;
  bytes = drop n t.bytes;
}

-- the tokens that are left behind the first n bytes of the token in front
abbrev pub behind_bytes : ℕ → List Left → List Left
behind_bytes n [] = []
behind_bytes n (t ∷ ts) = cond (nat_lt n (length t.bytes)) (back_of n t ∷ ts) ts

-- the tokens that are left behind the token in front
abbrev pub behind_token : List Left → List Left
behind_token [] = []
behind_token (t ∷ ts) = ts

-- the number of the token in front, or the token count at the end
abbrev pub front_number : ℕ → List Left → ℕ
front_number count [] = count
front_number count (t ∷ ts) = t.number
