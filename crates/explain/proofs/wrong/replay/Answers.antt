-- The host holds the memory of the entries before the index, so what it answers is expected.
use Rattle.std.proofs.Common.{◌≡◌, ◌≢◌, ◌+◌, rules, ap, ◌∙◌, sym, subst, get_or, take}
use Rattle.std.proofs.lemmas.List.{take_all}
use Rattle.mig_base.specs.declared.command.Entry.{Entry}
use Rattle.mig_base.specs.Flat.{reply_of, after, no_memory, memory_of}
use Rattle.mig_model.specs.Host.{memory}
use Rattle.report.proofs.CheckLemmas.{no_entry, memory_more}
use Rattle.explain.specs.Explaining.{AreWrong}
use Rattle.explain.proofs.WrongLemmas.{right_step, wrong_step}
use Rattle.explain.proofs.wrong.replay.Goals.{then-ne+in_ok-push, else-ne}
use Rattle.explain.proofs.wrong.replay.Goals as goal

pub loop-index-init : goal.loop-index-init
loop-index-init c = record { are = c.new-wrongs.ensures.items; memory = c.requires }

pub loop-index-preserved : goal.loop-index-preserved
loop-index-preserved c =
    let entry : Entry = get_or c.args.entries.now c.loop-index.index no_entry in
    let answers = c.in_ok-expected.ensures.reply ∙ ap (λ m. reply_of m entry.command) c.loop-index.invariant.memory in
    let held : memory c.perform.new.self ≡ memory_of (take (c.loop-index.index + 1) c.args.entries.now) =
    c.in_ok-expected.ensures.memory
    ∙ ap (λ m. after m entry.command) c.loop-index.invariant.memory
    ∙ sym (memory_more c.args.entries.now c.loop-index.index no_entry c.loop-index-test.true) in
    elim c.if-ne.branch [
      | then-ne+in_ok-push w ↦
          let differs : entry.reply ≢ c.in_ok-expected.expected = search rules in
          record {
            are =
                subst (λ ws. AreWrong no_memory 0 (take (c.loop-index.index + 1) c.args.entries.now) ws) (sym (ap (λ v. v.items) w.wrongs-is ∙ w.in_ok-push.ensures.items))
                (wrong_step c.args.entries.now c.loop-index.index c.loop-index.wrongs.items c.in_ok-expected.expected c.loop-index-test.true c.loop-index.invariant.are answers differs);
            memory = held;
          }
      | else-ne w ↦
          let same : entry.reply ≡ c.in_ok-expected.expected = search rules in
          record {
            are =
                subst (λ ws. AreWrong no_memory 0 (take (c.loop-index.index + 1) c.args.entries.now) ws) (sym (ap (λ v. v.items) w.wrongs-is))
                (right_step c.args.entries.now c.loop-index.index c.loop-index.wrongs.items c.loop-index-test.true c.loop-index.invariant.are (same ∙ answers));
            memory = held;
          }
    ]

pub returns : goal.returns
returns c =
    subst (λ es. AreWrong no_memory 0 es c.loop-index.wrongs.items) (take_all c.loop-index.index c.args.entries.now c.loop-index-test.false) c.loop-index.invariant.are
