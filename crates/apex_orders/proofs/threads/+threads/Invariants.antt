use Rattle.std.proofs.Common.{◌+◌, ◌*◌, length}
use Rattle.apex_orders.proofs.threads.+threads.Given as goal

abbrev pub decreases-run_both-here : goal.decreases-run_both-here
decreases-run_both-here g l = 4 * length l.before.now + 1

abbrev pub decreases-run_all : goal.decreases-run_all
decreases-run_all g l = 4 * length l.items.now

abbrev pub decreases-run_both : goal.decreases-run_both
decreases-run_both g l = 4 * length l.before.now + 2

abbrev pub decreases-run_last : goal.decreases-run_last
decreases-run_last g l = 4 * length l.before.now + 3
