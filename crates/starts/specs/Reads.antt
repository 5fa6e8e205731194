-- Where the code stands while it reads a specifier.
-- Assumes nothing.
use Rattle.std.specs.Prelude.{List}
use Rattle.sheet.specs.Left.{Left, left}
use Rattle.sheet.specs.View.{view}
use Rattle.starts.specs.Parts.{Said, said_at}
use Rattle.starts.specs.declared.cursor.Cursor.{Cursor}
use Rattle.starts.specs.declared.start.Front.{Front}

-- the tokens that are left at a cursor
abbrev pub here : Cursor → List Left
here c = left (view c.sheet.now) c.at 0

-- what the parts before a separator say, and the tokens that are left behind them
abbrev pub said_by : Front → Said
said_by f = said_at (view f.sheet.now) f.parts f.rest
