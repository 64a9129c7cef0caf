use Rattle.mig_model.proofs.delivery.WirePromises.{delivered_back_first, delivered_first, delivered_urgent_first, moved_back_short, moved_short, moved_urgent_short}
use Rattle.mig_model.proofs.migration.a_delivery_is_a_function.Goals as goal

pub returns : goal.returns
returns c world n sent rest =
    record {
      forward = λ ok first full. delivered_first world n sent rest ok first full;
      forward_short = λ ok first short. moved_short world n sent rest ok first short;
      back = λ ok first full. delivered_back_first world n sent rest ok first full;
      back_short = λ ok first short. moved_back_short world n sent rest ok first short;
      urgent = λ ok first full. delivered_urgent_first world n sent rest ok first full;
      urgent_short = λ ok first short. moved_urgent_short world n sent rest ok first short;
    }
