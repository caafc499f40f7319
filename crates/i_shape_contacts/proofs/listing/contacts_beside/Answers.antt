use Rattle.std.proofs.Common.{◌<◌, ◌+◌, ◌*◌, length, arith, subst, sym}
use Rattle.i_shape_core.specs.IntPoint.{contour_of}
use Rattle.i_shape_core.proofs.Plane.PointLists.{read-length}
use Rattle.i_shape_contacts.specs.Steps.Boxes.{IsBlock}
use Rattle.i_shape_contacts.proofs.AllContacts.{lists_between, row_ended}
use Rattle.i_shape_contacts.proofs.BlockSteps.{none_apart}
use Rattle.i_shape_contacts.proofs.listing.contacts_beside.Goals as goal

pub loop-chunk-init : goal.loop-chunk-init
loop-chunk-init g c = record {
  near = omega arith;
  lists = λ old h. lists_between _ c.args.first 0 _ old c.args.out.now c.args.start (omega arith) (λ l low high t. let order = t.order in absurd (omega (arith, high, order))) h;
}

pub loop-chunk-preserved-then-are_apart : goal.loop-chunk-preserved-then-are_apart
loop-chunk-preserved-then-are_apart g c =
    let value = g.P.Coordinate.IntNumber.value in
    let list = contour_of value (g.P.ContourPoint.points c.args.points.now) in
    let count = read-length value g.P.ContourPoint.point g.P.ContourPoint.points g.P.ContourPoint.each c.args.points.now in
    let chunk = c.loop-chunk.chunk in
    let near = c.loop-chunk.invariant.near in
    let within : chunk < length c.args.blocks.now = omega arith in
    let block : IsBlock value (g.C.Course.follows c.args.course) list (λ k. k) chunk c.index-blocks-chunk.result = subst (IsBlock value (g.C.Course.follows c.args.course) list (λ k. k) chunk) (sym c.index-blocks-chunk.is) (c.requires.are_blocks chunk c.index-blocks-chunk.result (omega arith) within) in
    let further = block.further in
    record {
      near = omega (arith, near, further);
      lists = λ old h. lists_between _ c.args.first (chunk * 8) (c.index-blocks-chunk.result.next * 8) old c.loop-chunk.out c.loop-chunk.count (omega (arith, further))
          (none_apart value (g.C.Course.follows c.args.course) list c.bounds_of_edge-bounds.result c.index-blocks-chunk.result.bounds c.args.first (chunk * 8) (c.index-blocks-chunk.result.next * 8) (c.are_apart.ensures.0 c.if-are_apart.true) c.bounds_of_edge-bounds.ensures block.holds) (c.loop-chunk.invariant.lists old h);
    }

pub loop-chunk-smaller-then-are_apart : goal.loop-chunk-smaller-then-are_apart
loop-chunk-smaller-then-are_apart g c =
    let value = g.P.Coordinate.IntNumber.value in
    let list = contour_of value (g.P.ContourPoint.points c.args.points.now) in
    let count = read-length value g.P.ContourPoint.point g.P.ContourPoint.points g.P.ContourPoint.each c.args.points.now in
    let chunk = c.loop-chunk.chunk in
    let near = c.loop-chunk.invariant.near in
    let within : chunk < length c.args.blocks.now = omega arith in
    let block : IsBlock value (g.C.Course.follows c.args.course) list (λ k. k) chunk c.index-blocks-chunk.result = subst (IsBlock value (g.C.Course.follows c.args.course) list (λ k. k) chunk) (sym c.index-blocks-chunk.is) (c.requires.are_blocks chunk c.index-blocks-chunk.result (omega arith) within) in
    let further = block.further in
    omega (arith, further)

pub chunk_end-requires : goal.chunk_end-requires
chunk_end-requires g c = let few = c.requires.blocks_count.few in let test = c.loop-chunk-test.true in omega (arith, few, test)

pub contacts_between-count-requires-clause-some : goal.contacts_between-count-requires-clause-some
contacts_between-count-requires-clause-some g c =
    let near = c.loop-chunk.invariant.near in
    let within = c.requires.within in
    let few = c.requires.blocks_count.few in
    let test = c.loop-chunk-test.true in
    c.greater_rank-from.ensures.either c.chunk_end.result (omega (arith, c.chunk_end.ensures.most c.args.first (omega (arith, near)) within)) (let further = c.chunk_end.ensures.further in omega (arith, further))

pub loop-chunk-preserved : goal.loop-chunk-preserved
loop-chunk-preserved g c =
    let value = g.P.Coordinate.IntNumber.value in
    let list = contour_of value (g.P.ContourPoint.points c.args.points.now) in
    let count = read-length value g.P.ContourPoint.point g.P.ContourPoint.points g.P.ContourPoint.each c.args.points.now in
    let chunk = c.loop-chunk.chunk in
    let near = c.loop-chunk.invariant.near in
    record {
      near = omega (arith, near);
      lists = λ old h. lists_between _ c.args.first c.chunk_end.result ((chunk + 1) * 8) old c.contacts_between-count.new.out c.contacts_between-count.result (let least = c.chunk_end.ensures.least in omega (arith, least))
          (λ l low high t. let inside = t.within in let end = c.chunk_end.ensures.most l (omega (arith, high)) (omega (arith, inside, count)) in absurd (omega (arith, low, end)))
          (c.contacts_between-count.ensures old (lists_between _ c.args.first (chunk * 8) c.greater_rank-from.result old c.loop-chunk.out c.loop-chunk.count c.greater_rank-from.ensures.second
          (λ l low high t. let order = t.order in let at = c.greater_rank-from.ensures.either l (omega (arith, order)) low in absurd (omega (arith, at, high))) (c.loop-chunk.invariant.lists old h)));
    }

pub returns : goal.returns
returns g c = λ old h.
    let value = g.P.Coordinate.IntNumber.value in
    let list = contour_of value (g.P.ContourPoint.points c.args.points.now) in
    let count = read-length value g.P.ContourPoint.point g.P.ContourPoint.points g.P.ContourPoint.each c.args.points.now in
    let past = c.loop-chunk-test.false in
    let enough = c.requires.blocks_count.enough in
    let listed = c.loop-chunk.invariant.lists old h in
    record {
      contacts = listed.contacts;
      are = row_ended _ c.args.first (c.loop-chunk.chunk * 8) listed.contacts (λ k l t. let within = t.within in omega (arith, count, past, enough, within)) listed.are;
      are_written = listed.are_written;
    }
