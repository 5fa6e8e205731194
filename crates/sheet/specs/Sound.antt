-- Which tokens are sound.
-- A text is a list of bytes. Tests are yes or no, so that a sheet's type can hold them.
-- Assumes nothing.
use Rattle.std.specs.Prelude.{ℕ, ◌+◌, Bool, true, false, cond, not, ◌&&◌, List, [], ◌∷◌, length, take, drop, Some, None, Option, ◌==◌, nat_le, nat_lt}
use Rattle.std.specs.List.{list_all, position}
use Rattle.sheet.specs.Kinds.{backslash, colon, comma, digits, discard, double_quote, eof, newline, pipe, semi_colon, word}
use Rattle.sheet.specs.declared.records.Token.{Token}

-- the text that a token's bytes stand in: the replacement text of a replaced token, the page of any other
abbrev pub text_of : List ℕ → List ℕ → Bool → List ℕ
text_of page replacement replaced = cond replaced replacement page

-- a token's bytes: so many as its length says, from its start on
abbrev pub token_bytes : List ℕ → List ℕ → Token → List ℕ
token_bytes page replacement t = take t.length (drop t.start (text_of page replacement t.replaced))

-- the numbers that are kinds of a sheet's tokens: 0 to 50, but for Discard and Eof
abbrev pub is_kind : ℕ → Bool
is_kind k = nat_le k word && (not (k == discard) && not (k == eof))

-- the bytes `0` to `9`
abbrev pub is_digit : ℕ → Bool
is_digit b = nat_le 48 b && nat_le b 57

abbrev pub all_digits : List ℕ → Bool
all_digits = list_all is_digit

-- the kinds that are just one byte, and that byte: `:` `;` `,` `|` `"` `\` and the line feed
abbrev pub one_byte : ℕ → Option ℕ
one_byte k =
    cond (k == colon) (Some 58)
    (cond (k == semi_colon) (Some 59)
    (cond (k == comma) (Some 44)
    (cond (k == pipe) (Some 124)
    (cond (k == double_quote) (Some 34)
    (cond (k == backslash) (Some 92)
    (cond (k == newline) (Some 10) None))))))

-- the bytes are this one byte and no more
abbrev pub just_byte : ℕ → List ℕ → Bool
just_byte b [] = false
just_byte b (x ∷ []) = x == b
just_byte b (x ∷ y ∷ xs) = false

-- where a kind has one byte, the bytes are just that; other kinds are free
abbrev pub just_one_byte : Option ℕ → List ℕ → Bool
just_one_byte None bs = true
just_one_byte (Some b) bs = just_byte b bs

-- Digits holds only digits, the one-byte kinds are just their byte, and the bytes of other kinds are free
abbrev pub bytes_fit : ℕ → List ℕ → Bool
bytes_fit k bs = cond (k == digits) (all_digits bs) (just_one_byte (one_byte k) bs)

-- a Newline is never replaced
abbrev pub flag_fits : ℕ → Bool → Bool
flag_fits k replaced = not (k == newline && replaced)

-- a token is sound if its kind is one, it has a byte, it ends inside its text, and its flag and its bytes fit its kind
abbrev pub sound_token : List ℕ → List ℕ → Token → Bool
sound_token page replacement t =
    is_kind t.kind
    && (nat_lt 0 t.length
    && (nat_le (t.start + t.length) (length (text_of page replacement t.replaced))
    && (flag_fits t.kind t.replaced
    && bytes_fit t.kind (token_bytes page replacement t))))

abbrev pub all_sound : List ℕ → List ℕ → List Token → Bool
all_sound page replacement [] = true
all_sound page replacement (t ∷ ts) = sound_token page replacement t && all_sound page replacement ts

-- the number of the first token that is not sound
abbrev pub first_unsound : List ℕ → List ℕ → List Token → Option ℕ
first_unsound page replacement = position (λ t. not (sound_token page replacement t))
