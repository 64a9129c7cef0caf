use Rattle.mig_laws.proofs.SourceNode.{act-under, end-under, pause-under, push-under, push_urgent-under, read-under, resume-under, round-under, send-under, send_run-under, serve-under, start-under, switch-under, take-under}
use Rattle.mig_laws.proofs.nodes.steps_of_a_changed_source.Goals as goal

pub returns-clause-steps : goal.returns-clause-steps
returns-clause-steps c f node = record {
  start = λ bytes. start-under f bytes node;
  round = λ bytes. round-under f bytes node;
  read = λ bytes. read-under f bytes node;
  switch = λ bytes. switch-under f bytes node;
  serve = λ bytes. serve-under f bytes node;
  end = λ bytes. end-under f bytes node;
  take = λ frame. take-under f node frame;
  pause = λ bytes. pause-under f bytes node;
  resume = λ bytes. resume-under f bytes node;
}

pub returns-clause-pages : goal.returns-clause-pages
returns-clause-pages c f node is = record {
  send = send-under f is.keeps_zero node;
  send_run = λ bytes count. send_run-under f is.keeps_zero bytes node count;
  act = λ bytes. act-under f is.keeps_zero bytes node;
  push = λ ticket. push-under f is.keeps_zero node ticket;
  push_urgent = λ ticket. push_urgent-under f is.keeps_zero node ticket;
}
