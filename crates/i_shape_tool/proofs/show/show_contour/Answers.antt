use Rattle.std.proofs.Common.{◌+◌, ◌-◌, drop, sym, subst}
use Rattle.std.specs.Str.{IsAscii}
use Rattle.std.proofs.lemmas.List.{drop-drop}
use Rattle.std.proofs.lemmas.Str.{IsAscii-take, IsAscii-drop, IsUtf8-from_ascii}
use Rattle.i_shape_tool.proofs.show.show_contour.Goals as goal

pub from_utf8_unchecked-requires : goal.from_utf8_unchecked-requires
from_utf8_unchecked-requires c =
    let w = c.write_points in
    let ascii : IsAscii (drop w.result w.new.text) = subst IsAscii (sym w.ensures.written) w.ensures.ascii in
    let shown : IsAscii (drop (w.result + c.loop-left.skipped) w.new.text) = subst IsAscii (drop-drop c.loop-left.skipped w.result w.new.text) (IsAscii-drop _ c.loop-left.skipped ascii) in
    IsUtf8-from_ascii _ (IsAscii-take _ (384 - (w.result + c.loop-left.skipped)) shown)
