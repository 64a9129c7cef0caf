use Rattle.std.proofs.Common.{◌+◌, ◌≤◌, List, length, sym, subst, arith, vec_len, vec_capacity, ◌++◌}
use Rattle.mig_base.specs.declared.Area.{Area}
use Rattle.page_stream.specs.Texts.{areas_of, areas_text, commands_text, runs_of, runs_text}
use Rattle.page_stream.specs.Writing.{Puts}
use Rattle.page_stream.proofs.AreaTexts.{areas_are, few_areas}
use Rattle.page_stream.proofs.FrameTexts.{room_of_first, room_of_second, room_of_third}
use Rattle.page_stream.proofs.Puts.{puts_then}
use Rattle.page_stream.proofs.writing.put_package.Goals as goal

pub put_areas-requires-clause-room : goal.put_areas-requires-clause-room
put_areas-requires-clause-room c =
    let same = areas_are c.areas.result.now c.args.areas.now c.areas.ensures.runs c.areas.ensures.pages in
    subst (λ (list : List Area). vec_len c.args.into.now + length (areas_text list) ≤ vec_capacity c.args.into.now) (sym same)
    (room_of_first c.args.into.now (areas_text (areas_of c.args.areas.now)) (runs_text (runs_of c.args.owed.now)) (commands_text c.args.commands.now) c.requires.room)

pub put_areas-requires-clause-few : goal.put_areas-requires-clause-few
put_areas-requires-clause-few c = omega (arith, few_areas c.areas.result.now c.args.areas.now c.areas.ensures.runs c.areas.ensures.pages)

pub put_runs-requires : goal.put_runs-requires
put_runs-requires c =
    let same = areas_are c.areas.result.now c.args.areas.now c.areas.ensures.runs c.areas.ensures.pages in
    let areas = subst (λ (list : List Area). Puts c.args.into.now c.put_areas.new.into (areas_text list)) same c.put_areas.ensures in
    room_of_second c.args.into.now c.put_areas.new.into (areas_text (areas_of c.args.areas.now)) (runs_text (runs_of c.args.owed.now)) (commands_text c.args.commands.now) c.requires.room areas

pub put_commands-requires-clause-room : goal.put_commands-requires-clause-room
put_commands-requires-clause-room c =
    let same = areas_are c.areas.result.now c.args.areas.now c.areas.ensures.runs c.areas.ensures.pages in
    let areas = subst (λ (list : List Area). Puts c.args.into.now c.put_areas.new.into (areas_text list)) same c.put_areas.ensures in
    room_of_third c.args.into.now c.put_areas.new.into c.put_runs.new.into (areas_text (areas_of c.args.areas.now)) (runs_text (runs_of c.args.owed.now)) (commands_text c.args.commands.now) c.requires.room areas c.put_runs.ensures

pub returns : goal.returns
returns c =
    let same = areas_are c.areas.result.now c.args.areas.now c.areas.ensures.runs c.areas.ensures.pages in
    let areas = subst (λ (list : List Area). Puts c.args.into.now c.put_areas.new.into (areas_text list)) same c.put_areas.ensures in
    let sets = puts_then c.args.into.now c.put_areas.new.into c.put_runs.new.into (areas_text (areas_of c.args.areas.now)) (runs_text (runs_of c.args.owed.now)) areas c.put_runs.ensures in
    puts_then c.args.into.now c.put_runs.new.into c.put_commands.new.into (areas_text (areas_of c.args.areas.now) ++ runs_text (runs_of c.args.owed.now)) (commands_text c.args.commands.now) sets c.put_commands.ensures
