-- The kind of a byte: what a token that begins with it is, callouts aside.
-- Assumes nothing.
use Rattle.std.specs.Prelude.{ℕ, Bool, cond, ◌&&◌, ◌||◌, List, [], ◌∷◌, ◌==◌, nat_le}
use Rattle.sheet.specs.Kinds.{ampersand, backslash, backtick, bang, caret, close_brace, close_bracket, close_parens, colon, comma, dashes, digits, dots, double_quote, equal_signs, forward_slashes, greater_than, hash, less_than, newline, open_brace, open_bracket, open_parens, percent, pipe, plus, punctuation, question_mark, semi_colon, single_quote, star, tilde, underscore, whitespace, word}
use Rattle.sheet.specs.Sound.{is_digit}

-- space, tab and carriage return
abbrev pub is_blank : ℕ → Bool
is_blank b = b == 32 || (b == 9 || b == 13)

-- the letters of ASCII, and every byte from 0x80 on
abbrev pub is_letter : ℕ → Bool
is_letter b = (nat_le 65 b && nat_le b 90) || ((nat_le 97 b && nat_le b 122) || nat_le 128 b)

-- the marks, each with its kind: & ` \ ! ^ } ] ) : , - " . = / > # < { [ ( % | + ? ; ' * ~ _
abbrev pub marks : List (ℕ × ℕ)
marks =
    (38, ampersand)
    ∷ (96, backtick)
    ∷ (92, backslash)
    ∷ (33, bang)
    ∷ (94, caret)
    ∷ (125, close_brace)
    ∷ (93, close_bracket)
    ∷ (41, close_parens)
    ∷ (58, colon)
    ∷ (44, comma)
    ∷ (45, dashes)
    ∷ (34, double_quote)
    ∷ (46, dots)
    ∷ (61, equal_signs)
    ∷ (47, forward_slashes)
    ∷ (62, greater_than)
    ∷ (35, hash)
    ∷ (60, less_than)
    ∷ (123, open_brace)
    ∷ (91, open_bracket)
    ∷ (40, open_parens)
    ∷ (37, percent)
    ∷ (124, pipe)
    ∷ (43, plus)
    ∷ (63, question_mark)
    ∷ (59, semi_colon)
    ∷ (39, single_quote)
    ∷ (42, star)
    ∷ (126, tilde)
    ∷ (95, underscore)
    ∷ []

-- the kind of a mark; a byte that is none is Punctuation
abbrev pub mark_of : ℕ → List (ℕ × ℕ) → ℕ
mark_of b [] = punctuation
mark_of b (m ∷ ms) = cond (b == m.0) m.1 (mark_of b ms)

abbrev pub kind_of : ℕ → ℕ
kind_of b =
    cond (b == 10) newline
    (cond (is_blank b) whitespace
    (cond (is_digit b) digits
    (cond (is_letter b) word
    (mark_of b marks))))

-- the kinds of which a token is a run of bytes; a token of any other kind is one byte
abbrev pub joins : ℕ → Bool
joins k =
    (k == whitespace) || (k == digits || (k == word || (k == dots || (k == dashes
    || (k == equal_signs || (k == forward_slashes || (k == plus || (k == open_parens || k == close_parens))))))))
