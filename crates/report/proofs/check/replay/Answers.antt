-- The host holds the memory of the entries before the index, so what it answers is expected.
use Rattle.std.proofs.Common.{◌≡◌, ◌≢◌, rules, ap, ◌∙◌, sym, take, get_or}
use Rattle.std.proofs.lemmas.Option.{slice_get-get_or}
use Rattle.mig_base.specs.declared.command.Entry.{Entry}
use Rattle.mig_base.specs.Flat.{reply_of, after, memory_of}
use Rattle.report.proofs.CheckLemmas.{no_entry, run_more, memory_more}
use Rattle.report.proofs.RoomLemmas.{memory_needs}
use Rattle.report.proofs.check.replay.Goals as goal

pub loop-index-init : goal.loop-index-init
loop-index-init c = record { run = tt; memory = c.requires }

pub returns-then-ne-clause-wrong : goal.returns-then-ne-clause-wrong
returns-then-ne-clause-wrong c =
    let entry : Entry = get_or c.args.entries.now c.loop-index.index no_entry in
    let differs : entry.reply ≢ c.in-Ok.expected = search rules in
    record {
      entry = entry;
      inside = slice_get-get_or c.args.entries.now c.loop-index.index no_entry c.loop-index-test.true;
      before = c.loop-index.invariant.run;
      answers = c.in-Ok.ensures.reply ∙ ap (λ m. reply_of m entry.command) c.loop-index.invariant.memory;
      differs = differs;
    }

pub returns-in_default-clause-wrong : goal.returns-in_default-clause-wrong
returns-in_default-clause-wrong c =
    let entry : Entry = get_or c.args.entries.now c.loop-index.index no_entry in
    record {
      index = c.loop-index.index;
      entry = entry;
      inside = slice_get-get_or c.args.entries.now c.loop-index.index no_entry c.loop-index-test.true;
      before = c.loop-index.invariant.run;
      needs = memory_needs c.loop-index.host (memory_of (take c.loop-index.index c.args.entries.now)) entry.command c.loop-index.invariant.memory c.in_default.ensures.needs;
    }

pub loop-index-preserved : goal.loop-index-preserved
loop-index-preserved c =
    let entry : Entry = get_or c.args.entries.now c.loop-index.index no_entry in
    let same : entry.reply ≡ c.in-Ok.expected = search rules in
    record {
      run =
          run_more c.args.entries.now c.loop-index.index no_entry c.loop-index-test.true c.loop-index.invariant.run
          (same ∙ c.in-Ok.ensures.reply ∙ ap (λ m. reply_of m entry.command) c.loop-index.invariant.memory);
      memory =
          c.in-Ok.ensures.memory
          ∙ ap (λ m. after m entry.command) c.loop-index.invariant.memory
          ∙ sym (memory_more c.args.entries.now c.loop-index.index no_entry c.loop-index-test.true);
    }
