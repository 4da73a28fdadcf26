-- Where an export goes on, as C has it.
use Rattle.session_exports.specs.declared.next.Point.{Point}
use Rattle.c_layouts.specs.declared.cursor_info.CursorInfo.{CursorInfo}

-- the point at which a cursor stands
abbrev pub point_of : CursorInfo → Point
point_of c = record { tree = c.tree; block = c.block }

-- the same point, as C has it
abbrev pub cursor_of : Point → CursorInfo
cursor_of p = record { tree = p.tree; block = p.block }
