-- Blanks: Whitespace and Newline, skipped before a cell and removed behind it.
-- Assumes nothing.
use Rattle.std.specs.Prelude.{Bool, true, false, cond, not, ◌&&◌, ◌||◌, List, [], ◌∷◌, ◌==◌}
use Rattle.sheet.specs.Kinds.{newline, whitespace}
use Rattle.sheet.specs.Left.{Left}

abbrev pub is_newline : Left → Bool
is_newline t = t.kind == newline

abbrev pub is_whitespace : Left → Bool
is_whitespace t = t.kind == whitespace

abbrev pub is_blank : Left → Bool
is_blank t = is_whitespace t || is_newline t

-- Whitespace is skipped, and Newline too unless the last cell ended at a separator
abbrev pub is_skipped : Bool → Left → Bool
is_skipped separated t = is_whitespace t || (not separated && is_newline t)

-- what is left behind what is skipped
abbrev pub skip : Bool → List Left → List Left
skip separated [] = []
skip separated (t ∷ ts) = cond (is_skipped separated t) (skip separated ts) (t ∷ ts)

-- whether a Newline is skipped
abbrev pub skips_newline : Bool → List Left → Bool
skips_newline separated [] = false
skips_newline separated (t ∷ ts) = cond (is_skipped separated t) (is_newline t || skips_newline separated ts) false

-- whether the very next token is a Newline
abbrev pub newline_next : List Left → Bool
newline_next [] = false
newline_next (t ∷ ts) = is_newline t

-- whether no token is left
abbrev pub none : List Left → Bool
none [] = true
none (t ∷ ts) = false

-- a blank is kept only if something is kept behind it
abbrev pub keep : Left → List Left → List Left
keep t [] = cond (is_blank t) [] (t ∷ [])
keep t (u ∷ us) = t ∷ u ∷ us

-- trailing Whitespace and Newline are removed
abbrev pub trim : List Left → List Left
trim [] = []
trim (t ∷ ts) = keep t (trim ts)
