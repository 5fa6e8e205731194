-- Where the search for tables stands, and what is true of the tables that it finds.
-- A line begins at an offset where that is the text's front or stands behind a line feed.
-- Assumes nothing.
use Rattle.std.specs.Prelude.{◌≡◌, ℕ, ◌+◌, ◌<◌, ◌≤◌, true, ◌&&◌, ◌⊎◌, List, [], ◌∷◌, ◌++◌, length, take, drop, Some, None, Option, ◌≢◌, nat_lt}
use Rattle.document.specs.Lines.{line_at, next_at, is_line_start, feeds}
use Rattle.document.specs.Marks.{is_table_line, kind_of}
use Rattle.document.specs.Attributes.{said, nothing, with_line}
use Rattle.document.specs.Tables.{format_of, separator_for, first_one_line, begins_blank}
use Rattle.document.specs.declared.attributes.Attributes as attributes
use Rattle.document.specs.declared.marks.LineKind.{LineKind}
use Rattle.document.specs.declared.marks.LineKind.TheVariants.{Table, Verbatim, Attributes, Aside, Text}
use Rattle.document.specs.declared.table.Table as table

-- where the search stands: at the front of a line, so many lines from the text's front, with the attributes in force
pub record Position : Type 0 where
  pub at : ℕ
  pub before : ℕ
  pub attributes : attributes.Attributes

-- a line that closes a block: where it begins, and how many lines stand before it
pub record Closing : Type 0 where
  pub start : ℕ
  pub before : ℕ

-- the first byte of a line, 0 where it has none
abbrev pub mark_of : List ℕ → ℕ
mark_of [] = 0
mark_of (x ∷ xs) = x

-- the search stands at an offset with so many lines before it
pub record Stands (text : List ℕ) (at before : ℕ) : Type 0 where
  pub within : at ≤ length text
  pub few : before ≤ at
  pub begins : at < length text → is_line_start text at ≡ true
  pub counted : at < length text → before ≡ feeds (take at text)

-- between two offsets no line is the same as an opening line
abbrev pub Missing : List ℕ → List ℕ → ℕ → ℕ → Type 0
Missing text opening from to = (k : ℕ) → from ≤ k → k < to → is_line_start text k ≡ true → line_at text k ≢ opening

-- a line is the first to close the block of an opening line, whose content begins at an offset with so many lines before it
pub record Closes (text opening : List ℕ) (from before : ℕ) (c : Closing) : Type 0 where
  pub forward : from ≤ c.start
  pub later : before ≤ c.before
  pub inside : c.start < length text
  pub stands : Stands text c.start c.before
  pub same : line_at text c.start ≡ opening
  pub first : Missing text opening from c.start

-- the table between an opening line at a position and a closing line
abbrev pub table_of : List ℕ → Position → ℕ → ℕ → Closing → table.Table
table_of text p mark start c =
    record {
      open_line = p.before + 1;
      close_line = c.before + 1;
      content_line = p.before + 2;
      start = start;
      end = c.start;
      mark = mark;
      format = format_of p.attributes.format mark;
      separator = separator_for p.attributes.separator p.attributes.format mark;
      columns = p.attributes.columns;
      options = p.attributes.options;
      first_one_line = first_one_line (drop start (take c.start text));
      blank_front = nat_lt 0 (length (drop start (take c.start text))) && begins_blank (drop start (take c.start text));
    }

-- where the search stands behind a block: below its closing line, with no attributes
pub record Behind (text : List ℕ) (c : Closing) (q : Position) : Type 0 where
  pub at : q.at ≡ next_at text c.start
  pub before : q.before ≡ c.before + 1
  pub clear : said q.attributes ≡ nothing

-- where it stands behind a verbatim block: below its closing line, or at the text's end where it has none
abbrev pub Passes : List ℕ → List ℕ → ℕ → ℕ → Position → Type 0
Passes text opening from before q =
    ((c : Closing) × Closes text opening from before c × Behind text c q)
    ⊎ (Missing text opening from (length text) × (q.at ≡ length text) × (said q.attributes ≡ nothing))

-- where it stands below a line
abbrev pub Next : List ℕ → Position → Position → Type 0
Next text p q = (q.at ≡ next_at text p.at) × (q.before ≡ p.before + 1)

-- where it goes on from a line of a kind that opens no table: attributes add up, asides leave them, other lines void them
abbrev pub Onward : List ℕ → Position → Position → LineKind → Type 0
Onward text p q Table = ⊥
Onward text p q Verbatim = Passes text (line_at text p.at) (next_at text p.at) (p.before + 1) q
Onward text p q Attributes = Next text p q × (said q.attributes ≡ with_line (said p.attributes) (line_at text p.at))
Onward text p q Aside = Next text p q × (said q.attributes ≡ said p.attributes)
Onward text p q Text = Next text p q × (said q.attributes ≡ nothing)

-- a table opens at a position, and the search goes on behind it
pub record FoundAt (text : List ℕ) (p : Position) (t : table.Table) (q : Position) : Type 0 where
  pub close : Closing
  pub opens : kind_of (line_at text p.at) ≡ Table
  pub closes : Closes text (line_at text p.at) (next_at text p.at) (p.before + 1) close
  pub is : t ≡ table_of text p (mark_of (line_at text p.at)) (next_at text p.at) close
  pub behind : Behind text close q

-- a table block opens at a position and is never closed
pub record OpenAt (text : List ℕ) (p : Position) : Type 0 where
  pub opens : kind_of (line_at text p.at) ≡ Table
  pub never : Missing text (line_at text p.at) (next_at text p.at) (length text)

-- the positions that a search comes to from the text's front, with the tables that it has found by then
pub data Reached (text : List ℕ) : Position → List table.Table → Type 0 where
  begun : {p : Position} → p.at ≡ 0 → p.before ≡ 0 → said p.attributes ≡ nothing → Reached text p []
  on : {p q : Position} {ts : List table.Table} → Reached text p ts → p.at < length text
      → Onward text p q (kind_of (line_at text p.at)) → Reached text q ts
  found : {p q : Position} {ts : List table.Table} {t : table.Table} → Reached text p ts → p.at < length text
      → FoundAt text p t q → Reached text q (ts ++ t ∷ [])

-- what is found in a text: the tables up to its end, or up to a block that is never closed, with the number of its line
abbrev pub Outlined : List ℕ → List table.Table → Option ℕ → Type 0
Outlined text ts None = (p : Position) × Reached text p ts × (length text ≤ p.at)
Outlined text ts (Some n) = (p : Position) × Reached text p ts × (p.at < length text) × OpenAt text p × (n ≡ p.before + 1)

-- a table's content stands between a delimiter line and the first same line below it
pub record Framed (text : List ℕ) (t : table.Table) : Type 0 where
  pub from : ℕ
  pub begins : is_line_start text from ≡ true
  pub opens : is_table_line (line_at text from) ≡ true
  pub content : t.start ≡ next_at text from
  pub inside : t.start ≤ t.end
  pub within : t.end < length text
  pub ends : is_line_start text t.end ≡ true
  pub closes : line_at text t.end ≡ line_at text from
  pub first : Missing text (line_at text from) t.start t.end
  pub mark : t.mark ≡ mark_of (line_at text from)
  pub open_line : t.open_line ≡ feeds (take from text) + 1
  pub close_line : t.close_line ≡ feeds (take t.end text) + 1
  pub content_line : t.content_line ≡ t.open_line + 1
