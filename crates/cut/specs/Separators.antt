-- Separators, escapes and quotes. A replaced token is none of them.
-- Assumes nothing.
use Rattle.std.specs.Prelude.{◌≡◌, ℕ, Bool, true, false, cond, not, ◌&&◌, List, length, ◌==◌, nat_le, nat_lt, slice_index, Result, MatchResult}
use Rattle.std.specs.List.{prefix_len}
use Rattle.sheet.specs.Kinds.{backslash, double_quote, number_of, word}
use Rattle.sheet.specs.Left.{Left, plain}
use Rattle.sheet.specs.declared.kind.Kind.TheVariants.{Colon, Comma, Pipe, SemiColon}
use Rattle.cut.specs.declared.types.CutterRefusal.{CutterRefusal}
use Rattle.cut.specs.declared.types.CutterRefusal.TheVariants.{BadSeparator}
use Rattle.cut.specs.declared.types.Separator.{Separator}
use Rattle.cut.specs.declared.types.Separator.TheVariants.{Kind, Byte}

-- a separator of CSV and DSV: `:` `;` `|` `,` are the tokens of that kind, any other byte is a token that begins with it
abbrev pub separates : Separator → Left → Bool
separates (Kind k) t = plain (number_of k) t
separates (Byte b) t = not t.replaced && slice_index t.bytes 0 == b

-- how many bytes stand before the first b
abbrev pub before : ℕ → List ℕ → ℕ
before b xs = prefix_len (λ x. not (x == b)) xs

-- an unreplaced Word that holds the separator byte is split before it; `:` `;` `|` `,` split none
abbrev pub splits : Separator → Left → Bool
splits (Kind k) t = false
splits (Byte b) t = plain word t && nat_lt (before b t.bytes) (length t.bytes)

-- where such a Word is split
abbrev pub split_at : Separator → Left → ℕ
split_at (Kind k) t = 0
split_at (Byte b) t = before b t.bytes

abbrev pub escapes : Left → Bool
escapes t = plain backslash t

abbrev pub quotes : Left → Bool
quotes t = plain double_quote t

-- the separators that a cutter can have: printable bytes from `!` to `~`, but for `"` and `\`
abbrev pub is_separator : ℕ → Bool
is_separator b = nat_le 33 b && (nat_le b 126 && (not (b == 34) && not (b == 92)))

-- the separator of a byte
abbrev pub separator_of : ℕ → Separator
separator_of b =
    cond (b == 58) (Kind Colon)
    (cond (b == 59) (Kind SemiColon)
    (cond (b == 124) (Kind Pipe)
    (cond (b == 44) (Kind Comma) (Byte b))))

-- the separator of a byte, refused exactly where a cutter cannot have it
abbrev pub SeparatorFrom : ℕ → Result Separator CutterRefusal → Type 0
SeparatorFrom b r = MatchResult r (λ s. (is_separator b ≡ true) × (s ≡ separator_of b)) (λ e. (is_separator b ≡ false) × (e ≡ BadSeparator))
