use Rattle.std.proofs.Common.{refl, subst, true}
use Rattle.mig_model.specs.Log.{empty_log, forgotten}
use Rattle.mig_model.specs.Source.{source_act}
use Rattle.mig_model.specs.Space.{access_of}
use Rattle.mig_model.specs.Ioctls.{protected_in}
use Rattle.dirty_log.specs.Spaces.{AreProtected}
use Rattle.dirty_log.proofs.SendLemmas.{one_sent}
use Rattle.dirty_log.proofs.KeptLemmas.{access_kept, acted_kept, call_kept, none_clean, read_kept, registered_kept, sent_kept}
use Rattle.dirty_log.proofs.laws.clean_pages_are_protected.Goals as goal

pub returns : goal.returns
returns c = record {
  watched = λ log space sound kept. record {
    present = λ page h u. sound.present page (kept page h u);
    registered = λ page h u. sound.watched page (kept page h u);
  };
  new = λ space. none_clean empty_log space refl;
  forget = λ log space. none_clean (forgotten log) space refl;
  kept = λ log space kept. record {
    begin_round = λ todo. kept;
    drop_held = kept;
    read = λ cpus noted next. read_kept log (record { space = space; cpus = cpus }) noted next kept;
    access = λ cpu command. access_kept (access_of space command) log space cpu command kept;
  };
  kept_in_order = λ log space sound kept. record {
    register_new = registered_kept log space sound kept;
    send = λ page fits. subst (λ l. AreProtected l (protected_in space page 1 true)) (one_sent log page) (sent_kept log space page 1 sound fits kept);
    send_run = λ first count fits. sent_kept log space first count sound fits kept;
    call = λ cpu command is. call_kept log space cpu command is sound kept;
  };
  act = λ node fault. acted_kept (source_act node fault) node fault.page;
}
