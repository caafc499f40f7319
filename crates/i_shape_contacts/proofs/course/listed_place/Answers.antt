use Rattle.i_shape_contacts.proofs.Courses.{after_unique}
use Rattle.i_shape_contacts.proofs.course.listed_place.Goals as goal

pub returns : goal.returns
returns c =
    let lists = c.requires.table.lists in
    record {
      is = lists.each c.args.place c.requires.within;
      only = λ m w. after_unique c.args._offsets.now c.args.place m _ c.requires.table.divides w (lists.each c.args.place c.requires.within);
      within = lists.within c.args.place c.requires.within;
    }
