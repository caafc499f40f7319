use Rattle.std.proofs.Common.{◌∙◌, ◌+◌, ◌<◌, ◌≤◌, length, refl, arith}
use Rattle.i_shape.proofs.Buffers.WrittenBehind.{written_behind, behind_length, collapse_appended, left_appended}
use Rattle.i_shape.proofs.flat.buffer.cleaning.parts.append_cleaned.Goals as goal

pub returns-then-count-eq0-clause-ok : goal.returns-then-count-eq0-clause-ok
returns-then-count-eq0-clause-ok g c =
    let value = g.T.IntNumber.value in
    let points = c.args.points.now.items in
    let contour = c.args.contour.now in
    let start = c.len-start.ensures ∙ c.args.points.now.ok.0 in
    let whole = c.as_mut_slice.ensures.value ∙ c.in_ok-extend_from_slice.ensures.items in
    let written = c.in_ok-count.ensures.written.written in
    let many = behind_length points contour c.as_mut_slice.result.now c.len-start.result (length c.try_clean_into.new.out) start whole c.try_clean_into.ensures.written.len in
    let most : c.in_ok-count.count ≤ length c.try_clean_into.new.out = omega (arith, written.fewer, many) in
    let fits : c.len-start.result + length c.try_clean_into.new.out ≤ c.extend_from_slice.new.self.len = omega (arith, many, c.len-start.ensures, c.in_ok-extend_from_slice.ensures.len) in
    let ends = written_behind points contour c.as_mut_slice.result.now c.try_clean_into.new.out _ _ c.truncate.new.self.items c.len-start.result c.in_ok-count.count c.extend_from_slice.new.self.len
    start whole most fits c.truncate.ensures.items in
    collapse_appended value contour _ points c.try_clean_into.new.out c.truncate.new.self.items c.args.ranges.now.items c.args.ranges.now.items c.in_ok-count.count written ends c.if-count-eq0.true refl

pub returns-clause-ok : goal.returns-clause-ok
returns-clause-ok g c =
    let value = g.T.IntNumber.value in
    let points = c.args.points.now.items in
    let contour = c.args.contour.now in
    let start = c.len-start.ensures ∙ c.args.points.now.ok.0 in
    let whole = c.as_mut_slice.ensures.value ∙ c.in_ok-extend_from_slice.ensures.items in
    let written = c.in_ok-count.ensures.written.written in
    let many = behind_length points contour c.as_mut_slice.result.now c.len-start.result (length c.try_clean_into.new.out) start whole c.try_clean_into.ensures.written.len in
    let most : c.in_ok-count.count ≤ length c.try_clean_into.new.out = omega (arith, written.fewer, many) in
    let fits : c.len-start.result + length c.try_clean_into.new.out ≤ c.extend_from_slice.new.self.len = omega (arith, many, c.len-start.ensures, c.in_ok-extend_from_slice.ensures.len) in
    let ends = written_behind points contour c.as_mut_slice.result.now c.try_clean_into.new.out _ _ c.truncate.new.self.items c.len-start.result c.in_ok-count.count c.extend_from_slice.new.self.len
    start whole most fits c.truncate.ensures.items in
    let some : 0 < c.in_ok-count.count = omega (arith, c.if-count-eq0.false) in
    left_appended value contour _ points c.try_clean_into.new.out c.truncate.new.self.items c.args.ranges.now.items c.push.new.self.items c.in_ok-count.count written ends some most
    (rw (← start) c.in_ok-push.ensures.items)
