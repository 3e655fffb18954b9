use Rattle.encoding.proofs.Runs.{filled}
use Rattle.page.specs.Answers.{field_list}
use lib.ListN.{length-set}
use native.Mathlib.Omega.{arith}
use Rattle.desk.proofs.exports.give.Goals as goal

pub bounds-fields-4 : goal.bounds-fields-4
bounds-fields-4 c = simp length-set (omega arith)

pub bounds-fields-5 : goal.bounds-fields-5
bounds-fields-5 c = simp length-set (omega arith)

pub returns : goal.returns
returns c = filled (field_list c.args.page) c.args.fields.now c.requires
