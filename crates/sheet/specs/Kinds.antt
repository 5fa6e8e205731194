-- The kinds of tokens, by their numbers: 0 to 50, in the order of the `TokenKind` of asciidork-parser.
-- Assumes nothing.
use Rattle.std.specs.Prelude.{◌≡◌, ℕ, ◌<◌, Result, MatchResult}
use Rattle.sheet.specs.declared.kind.Kind.{Kind}
use Rattle.sheet.specs.declared.kind.Kind.TheVariants.{Ampersand, AttrDef, AttrPassDbl, AttrRef, Backtick, Backslash, Bang, CalloutNumber, Caret, CloseBrace, CloseBracket, CloseParens, Colon, Comma, Dashes, DelimiterLine, Digits, Directive, Discard, DoubleQuote, Dots, Email, Entity, EqualSigns, Eof, ForwardSlashes, GreaterThan, Hash, LessThan, MacroName, MaybeEmail, Newline, NoBreakSpace, OpenBrace, OpenBracket, OpenParens, Percent, Pipe, Plus, PreprocPassthru, Punctuation, QuestionMark, SemiColon, SingleQuote, Star, TermDelimiter, Tilde, Underscore, UriScheme, Whitespace, Word}
use Rattle.sheet.specs.declared.kind.UnknownKind.{UnknownKind}

abbrev pub ampersand : ℕ
ampersand = 0

abbrev pub attr_def : ℕ
attr_def = 1

abbrev pub attr_pass_dbl : ℕ
attr_pass_dbl = 2

abbrev pub attr_ref : ℕ
attr_ref = 3

abbrev pub backtick : ℕ
backtick = 4

abbrev pub backslash : ℕ
backslash = 5

abbrev pub bang : ℕ
bang = 6

abbrev pub callout_number : ℕ
callout_number = 7

abbrev pub caret : ℕ
caret = 8

abbrev pub close_brace : ℕ
close_brace = 9

abbrev pub close_bracket : ℕ
close_bracket = 10

abbrev pub close_parens : ℕ
close_parens = 11

abbrev pub colon : ℕ
colon = 12

abbrev pub comma : ℕ
comma = 13

abbrev pub dashes : ℕ
dashes = 14

abbrev pub delimiter_line : ℕ
delimiter_line = 15

abbrev pub digits : ℕ
digits = 16

abbrev pub directive : ℕ
directive = 17

abbrev pub discard : ℕ
discard = 18

abbrev pub double_quote : ℕ
double_quote = 19

abbrev pub dots : ℕ
dots = 20

abbrev pub email : ℕ
email = 21

abbrev pub entity : ℕ
entity = 22

abbrev pub equal_signs : ℕ
equal_signs = 23

abbrev pub eof : ℕ
eof = 24

abbrev pub forward_slashes : ℕ
forward_slashes = 25

abbrev pub greater_than : ℕ
greater_than = 26

abbrev pub hash : ℕ
hash = 27

abbrev pub less_than : ℕ
less_than = 28

abbrev pub macro_name : ℕ
macro_name = 29

abbrev pub maybe_email : ℕ
maybe_email = 30

abbrev pub newline : ℕ
newline = 31

abbrev pub no_break_space : ℕ
no_break_space = 32

abbrev pub open_brace : ℕ
open_brace = 33

abbrev pub open_bracket : ℕ
open_bracket = 34

abbrev pub open_parens : ℕ
open_parens = 35

abbrev pub percent : ℕ
percent = 36

abbrev pub pipe : ℕ
pipe = 37

abbrev pub plus : ℕ
plus = 38

abbrev pub preproc_passthru : ℕ
preproc_passthru = 39

abbrev pub punctuation : ℕ
punctuation = 40

abbrev pub question_mark : ℕ
question_mark = 41

abbrev pub semi_colon : ℕ
semi_colon = 42

abbrev pub single_quote : ℕ
single_quote = 43

abbrev pub star : ℕ
star = 44

abbrev pub term_delimiter : ℕ
term_delimiter = 45

abbrev pub tilde : ℕ
tilde = 46

abbrev pub underscore : ℕ
underscore = 47

abbrev pub uri_scheme : ℕ
uri_scheme = 48

abbrev pub whitespace : ℕ
whitespace = 49

abbrev pub word : ℕ
word = 50

-- the number of a kind
abbrev pub number_of : Kind → ℕ
number_of Ampersand = ampersand
number_of AttrDef = attr_def
number_of AttrPassDbl = attr_pass_dbl
number_of AttrRef = attr_ref
number_of Backtick = backtick
number_of Backslash = backslash
number_of Bang = bang
number_of CalloutNumber = callout_number
number_of Caret = caret
number_of CloseBrace = close_brace
number_of CloseBracket = close_bracket
number_of CloseParens = close_parens
number_of Colon = colon
number_of Comma = comma
number_of Dashes = dashes
number_of DelimiterLine = delimiter_line
number_of Digits = digits
number_of Directive = directive
number_of Discard = discard
number_of DoubleQuote = double_quote
number_of Dots = dots
number_of Email = email
number_of Entity = entity
number_of EqualSigns = equal_signs
number_of Eof = eof
number_of ForwardSlashes = forward_slashes
number_of GreaterThan = greater_than
number_of Hash = hash
number_of LessThan = less_than
number_of MacroName = macro_name
number_of MaybeEmail = maybe_email
number_of Newline = newline
number_of NoBreakSpace = no_break_space
number_of OpenBrace = open_brace
number_of OpenBracket = open_bracket
number_of OpenParens = open_parens
number_of Percent = percent
number_of Pipe = pipe
number_of Plus = plus
number_of PreprocPassthru = preproc_passthru
number_of Punctuation = punctuation
number_of QuestionMark = question_mark
number_of SemiColon = semi_colon
number_of SingleQuote = single_quote
number_of Star = star
number_of TermDelimiter = term_delimiter
number_of Tilde = tilde
number_of Underscore = underscore
number_of UriScheme = uri_scheme
number_of Whitespace = whitespace
number_of Word = word

-- the kind of a number, or an error with a number that no kind has
abbrev pub Numbered : ℕ → Result Kind UnknownKind → Type 0
Numbered n r = MatchResult r (λ k. number_of k ≡ n) (λ e. (e.0 ≡ n) × (word < n))
