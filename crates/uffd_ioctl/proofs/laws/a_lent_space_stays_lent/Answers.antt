use Rattle.std.proofs.Common.{refl, ap}
use Rattle.std.specs.FinMap.{get-empty}
use Rattle.std.specs.Ordering.{nat_cmp}
use Rattle.std.proofs.Common.{is_some}
use Rattle.mig_model.specs.Source.{source_act}
use Rattle.mig_model.specs.Space.{access_of}
use Rattle.uffd_ioctl.proofs.LentLemmas.{access_lent, acted_lent, call_lent, read_lent}
use Rattle.uffd_ioctl.proofs.laws.a_lent_space_stays_lent.Goals as goal

pub returns : goal.returns
returns c = record {
  new = λ features h. record { enabled = refl; events = h; low = λ page l. ap is_some (get-empty nat_cmp page) };
  register_new = λ space lent. record { enabled = lent.enabled; events = lent.events; low = lent.low };
  send = λ space first count lent. record { enabled = lent.enabled; events = lent.events; low = lent.low };
  install = λ space page bytes lent. record { enabled = lent.enabled; events = lent.events; low = lent.low };
  read = read_lent;
  act = λ node fault. acted_lent (source_act node fault) node fault.page;
  access = λ space cpu command. access_lent (access_of space command) space cpu command;
  call = λ space cpu command call. call_lent space cpu command;
}
