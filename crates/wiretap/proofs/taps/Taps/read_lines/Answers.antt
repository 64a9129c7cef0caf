use Rattle.std.proofs.Common.{◌≡◌, length, arith, rules, ap, sym, subst}
use Rattle.grammar.specs.Lines.{HasNoFeed}
use Rattle.engine.specs.Engine.{Place}
use Rattle.engine.proofs.Whole.{at_end}
use Rattle.wiretap.proofs.Whole.{ran_none, ran_then, ran_finished}
use Rattle.wiretap.proofs.taps.Taps.read_lines.Goals as goal

pub loop-init : goal.loop-init
loop-init g c =
    let new = c.requires.start in
    record {
      ran = ran_none g.T.Write.contents c.args.script.now.work c.args.script.now _ _ c.args.self.now new;
      clean = ap (λ (place : Place). place.output) new;
      one = subst HasNoFeed (sym (ap (λ (place : Place). place.line) new)) tt;
      runs = c.requires.runs;
      number = omega (arith, ap (λ (place : Place). place.number) new);
    }

pub returns-in-Ok-eq0 : goal.returns-in-Ok-eq0
returns-in-Ok-eq0 g c =
    let end = at_end _ _ _ c.read.new.buf c.in-Ok-eq0.field-0-test (search rules) c.in-Ok-eq0.ensures.bytes in
    ran_finished c.finish.result g.T.Write.contents c.args.script.now.work c.loop.script c.finish.new.script.work _ _ _ _ _ _ _ _ _ c.loop.invariant.ran end.0 end.1 c.finish.ensures

pub loop-preserved : goal.loop-preserved
loop-preserved g c = record {
  ran = ran_then g.T.Write.contents c.args.script.now.work c.loop.script c.run_lines.new.script _ _ _ _ _ _ _ _ _ _ c.loop.invariant.ran c.in-Ok.ensures.bytes.0 c.in_ok-run_lines-in-Ok.ensures.ok;
  clean = c.in_ok-run_lines-in-Ok.ensures.clean;
  one = c.in_ok-run_lines-in-Ok.ensures.open;
  runs = c.in_ok-run_lines-in-Ok.ensures.runs;
  number =
      let size : length c.read.new.buf ≡ 16384 = search rules in
      omega (arith, c.loop.invariant.number, c.in_ok-run_lines-in-Ok.ensures.number, c.in-Ok.ensures.bound.0, c.in-Ok.ensures.bound.1, size);
}
