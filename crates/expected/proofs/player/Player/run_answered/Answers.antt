use Rattle.std.proofs.Common.{Some, refl, rules, sym, ◌∙◌, arith}
use Rattle.expected.specs.Cases.{Asks}
use Rattle.expected.proofs.Cuts.{wrong_cut, wrong_front}
use Rattle.expected.proofs.player.Player.run_answered.Goals as goal

pub returns-in_default-clause-fault : goal.returns-in_default-clause-fault
returns-in_default-clause-fault c = (refl, wrong_cut _ _ c.requires.cpus c.requires.other c.in_default.ensures.none)

pub returns-in_default-2-clause-fault : goal.returns-in_default-2-clause-fault
returns-in_default-2-clause-fault c =
    (refl, wrong_front _ _ c.in-Some.front.now c.in-Some.answer.now c.requires.cpus c.requires.other c.in-Some.ensures.found (rw c.in_default-2.is at c.in_ok-order.ensures.none))

pub returns-then-is_answer-clause-ok : goal.returns-then-is_answer-clause-ok
returns-then-is_answer-clause-ok c = record {
  case = Asks c.in-Some-2.order (Some c.in-Some.answer.now);
  says = record { front = c.in-Some.front.now; cut = c.in-Some.ensures.found; spells = rw c.in-Some-2.is at c.in_ok-order.ensures.found; other = c.requires.other };
  does = c.in_ok-carry_out.ensures.ok;
  meets = sym c.as_bytes.ensures.value ∙ c.if-is_answer.ensures.0 (search rules);
  counts = λ few. omega arith;
}

pub returns-clause-ok : goal.returns-clause-ok
returns-clause-ok c = record {
  order = c.in-Some-2.order;
  answer = c.in-Some.answer.now;
  says = record { front = c.in-Some.front.now; cut = c.in-Some.ensures.found; spells = rw c.in-Some-2.is at c.in_ok-order.ensures.found; other = c.requires.other };
  obeys = c.in_ok-carry_out.ensures.ok;
  differs = λ e. let no = c.if-is_answer.ensures.1 (c.as_bytes.ensures.value ∙ e) in cc;
  reports = rw c.as_bytes-2.ensures.value at c.in_ok-self.ensures;
  counts = λ few. omega arith;
}
