-- The styles, by their numbers and by the letters that name them.
-- Assumes nothing.
use Rattle.std.specs.Prelude.{◌≡◌, ℕ, ◌<◌, cond, Some, None, Option, Result, MatchResult, ◌==◌}
use Rattle.styles.specs.declared.Style.{Style}
use Rattle.styles.specs.declared.Style.TheVariants.{Default, Emphasis, Header, Monospace, Strong, Literal, AsciiDoc}
use Rattle.styles.specs.declared.UnknownStyle.{UnknownStyle}

abbrev pub number_of : Style → ℕ
number_of Default = 0
number_of Emphasis = 1
number_of Header = 2
number_of Monospace = 3
number_of Strong = 4
number_of Literal = 5
number_of AsciiDoc = 6

-- the style of a number, or an error with a number that no style has
abbrev pub Numbered : ℕ → Result Style UnknownStyle → Type 0
Numbered n r = MatchResult r (λ s. number_of s ≡ n) (λ e. (e.0 ≡ n) × (6 < n))

-- The letters d, e, h, m, s, l and a name the styles 0 to 6: default, emphasis, header, monospace, strong, literal and
-- AsciiDoc. Case counts.
abbrev pub style_named : ℕ → Option Style
style_named c =
    cond (c == 100) (Some Default)
    (cond (c == 101) (Some Emphasis)
    (cond (c == 104) (Some Header)
    (cond (c == 109) (Some Monospace)
    (cond (c == 115) (Some Strong)
    (cond (c == 108) (Some Literal)
    (cond (c == 97) (Some AsciiDoc) None))))))
