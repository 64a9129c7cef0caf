use Rattle.std.proofs.Common.{arith}
use Rattle.area_map.specs.Edits.{edited}
use Rattle.area_map.proofs.CountLemmas.{sum-high, replaced_few, count_edited}
use Rattle.area_map.proofs.edit.mapped_after.Goals as goal

pub page_count-replaced-requires : goal.page_count-replaced-requires
page_count-replaced-requires c =
    let few = replaced_few c.args.areas.now c.args.edit c.requires.inside in
    let high = sum-high c.args.areas.now c.requires.counted.runs in
    omega arith

pub overflow_sub-result : goal.overflow_sub-result
overflow_sub-result c =
    let few = replaced_few c.args.areas.now c.args.edit c.requires.inside in
    omega (arith, c.page_count-replaced.ensures, c.requires.counted.count)

pub overflow_add-result : goal.overflow_add-result
overflow_add-result c =
    let total = count_edited c.args.areas.now c.args.edit c.args.mapped c.page_count-replaced.result c.requires.inside c.requires.counted.count c.page_count-replaced.ensures in
    let high = sum-high (edited c.args.areas.now c.args.edit) c.requires.runs in
    omega (arith, c.pages_of.ensures)

pub overflow_add-result-2 : goal.overflow_add-result-2
overflow_add-result-2 c =
    let total = count_edited c.args.areas.now c.args.edit c.args.mapped c.page_count-replaced.result c.requires.inside c.requires.counted.count c.page_count-replaced.ensures in
    let high = sum-high (edited c.args.areas.now c.args.edit) c.requires.runs in
    omega (arith, c.pages_of.ensures, c.pages_of-2.ensures)

pub overflow_add-result-3 : goal.overflow_add-result-3
overflow_add-result-3 c =
    let total = count_edited c.args.areas.now c.args.edit c.args.mapped c.page_count-replaced.result c.requires.inside c.requires.counted.count c.page_count-replaced.ensures in
    let high = sum-high (edited c.args.areas.now c.args.edit) c.requires.runs in
    omega (arith, c.pages_of.ensures, c.pages_of-2.ensures, c.pages_of-3.ensures)

pub returns : goal.returns
returns c =
    let total = count_edited c.args.areas.now c.args.edit c.args.mapped c.page_count-replaced.result c.requires.inside c.requires.counted.count c.page_count-replaced.ensures in
    omega (arith, c.pages_of.ensures, c.pages_of-2.ensures, c.pages_of-3.ensures)
