use Rattle.std.proofs.Common.{refl}
use Rattle.mig_model.specs.DestinationSteps as destination
use Rattle.mig_model.specs.SourceSteps as source
use Rattle.world.specs.Worlds.{world_of}
use Rattle.world.proofs.DeliveryLemmas.{back_checked, urgent_checked}
use Rattle.world.proofs.WouldLemmas.{node_checked, up_checked}
use Rattle.world.proofs.parts.Parts.would.Goals as goal

pub returns-in-Start : goal.returns-in-Start
returns-in-Start c = rw (c.in-Start.is) (node_checked (source.start c.args.self.now.source) _ c.check_start.result (λ x. refl) c.check_start.ensures)

pub returns-in-Round : goal.returns-in-Round
returns-in-Round c = rw (c.in-Round.is) (node_checked (source.round c.args.self.now.source) _ c.check_round.result (λ x. refl) c.check_round.ensures)

pub returns-in-SourceRead : goal.returns-in-SourceRead
returns-in-SourceRead c = rw (c.in-SourceRead.is) (node_checked (source.read c.args.self.now.source) _ c.check_read.result (λ x. refl) c.check_read.ensures)

pub returns-in-SourceAct : goal.returns-in-SourceAct
returns-in-SourceAct c = rw (c.in-SourceAct.is) (node_checked (source.act c.args.self.now.source) _ c.check_act.result (λ x. refl) c.check_act.ensures)

pub returns-in-DestRead : goal.returns-in-DestRead
returns-in-DestRead c = rw (c.in-DestRead.is) (node_checked (destination.read c.args.self.now.destination) _ c.check_read-in-DestRead.result (λ x. refl) c.check_read-in-DestRead.ensures)

pub returns-in-DestAct : goal.returns-in-DestAct
returns-in-DestAct c = rw (c.in-DestAct.is) (node_checked (destination.act c.args.self.now.destination) _ c.check_act-in-DestAct.result (λ x. refl) c.check_act-in-DestAct.ensures)

pub returns-in-Install : goal.returns-in-Install
returns-in-Install c = rw (c.in-Install.is) (node_checked (destination.install c.args.self.now.destination) _ c.check_install.result (λ x. refl) c.check_install.ensures)

pub returns-in-Send : goal.returns-in-Send
returns-in-Send c = rw (c.in-Send.is) (up_checked c.args.self.now.up (source.send c.args.self.now.source) _ c.check_send.result _ (λ x. refl) c.check_send.ensures c.while_up.ensures)

pub returns-in-SendRun : goal.returns-in-SendRun
returns-in-SendRun c = rw (c.in-SendRun.is) (up_checked c.args.self.now.up (source.send_run c.args.self.now.source c.in-SendRun.count) _ c.check_run.result _ (λ x. refl) c.check_run.ensures c.while_up-in-SendRun.ensures)

pub returns-in-Switch : goal.returns-in-Switch
returns-in-Switch c = rw (c.in-Switch.is) (up_checked c.args.self.now.up (source.switch c.args.self.now.source) _ c.check_switch.result _ (λ x. refl) c.check_switch.ensures c.while_up-in-Switch.ensures)

pub returns-in-Push : goal.returns-in-Push
returns-in-Push c = rw (c.in-Push.is) (up_checked c.args.self.now.up (source.push c.args.self.now.source c.in-Push.ticket) _ c.check_push.result _ (λ x. refl) c.check_push.ensures.push c.while_up-in-Push.ensures)

pub returns-in-PushUrgent : goal.returns-in-PushUrgent
returns-in-PushUrgent c = rw (c.in-PushUrgent.is) (up_checked c.args.self.now.up (source.push_urgent c.args.self.now.source c.in-PushUrgent.ticket) _ c.check_push-in-PushUrgent.result _ (λ x. refl) c.check_push-in-PushUrgent.ensures.urgent c.while_up-in-PushUrgent.ensures)

pub returns-in-Serve : goal.returns-in-Serve
returns-in-Serve c = rw (c.in-Serve.is) (up_checked c.args.self.now.up (source.serve c.args.self.now.source) _ c.check_serve.result _ (λ x. refl) c.check_serve.ensures c.while_up-in-Serve.ensures)

pub returns-in-End : goal.returns-in-End
returns-in-End c = rw (c.in-End.is) (up_checked c.args.self.now.up (source.end c.args.self.now.source) _ c.check_end.result _ (λ x. refl) c.check_end.ensures c.while_up-in-End.ensures)

pub returns-in-DeliverBack : goal.returns-in-DeliverBack
returns-in-DeliverBack c = rw (c.in-DeliverBack.is, c.ensure_in_flight.ensures, c.has_started.ensures) (back_checked (world_of c.args.self.now) c.in-DeliverBack.n)

pub returns-in-DeliverUrgent : goal.returns-in-DeliverUrgent
returns-in-DeliverUrgent c = rw (c.in-DeliverUrgent.is, c.ensure_in_flight-in-DeliverUrgent.ensures, c.has_run.ensures) (urgent_checked (world_of c.args.self.now) c.in-DeliverUrgent.n)
