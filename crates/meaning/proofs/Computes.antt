-- One name that opens every definition that a run or a usage fault computes with: `unfolding computes`.
use Rattle.meaning.specs.Basics.{any_passes}
use Rattle.meaning.specs.Declarations.{leading, declarations, root, sum_below, cells_at, elements_at, host_channels_at, capacity_at, variable_at, channel_at, source_at, sink_at, total_cells, host_channels}
use Rattle.meaning.specs.Ready.{is_live, intent_at, running_rows, ready, after}
use Rattle.meaning.specs.Nodes.{node_at}
use Rattle.meaning.specs.HigherRows.{last_rows, at_row}
use Rattle.meaning.specs.Run.{go_from, go, run}
use Rattle.meaning.specs.Settle.{settle, settle_running, settle_each, begun, begun_running, begun_each, start, settled}
use Rattle.meaning.specs.State.{program, process_at, whole}
use Rattle.meaning.specs.Tree.{contents, content_at}
use Rattle.meaning.specs.Usage.{numbers_from, constant, counts_by_value, counts_for, stands_in, cell_clash, input_clash, output_clash, comparisons, clashes, first_clash, compared, pairs_compared, usage_fault, gather, gather_all}
use Rattle.meaning.specs.Values.{fitted, wrapped, quotient, remainder, operators, operate, monadic_of, decides, dyadic_of, in_array, value, index, passed}
use Rattle.meaning.specs.Order.{outcome_at_rest, chosen_step}
use Rattle.meaning.specs.Intent.{input_result, intent}

-- `unfolding computes` in an example that holds by computation
unfoldable pub computes : Unit {0}
unfolding any_passes sum_below cells_at elements_at host_channels_at capacity_at variable_at channel_at source_at sink_at total_cells host_channels is_live intent_at running_rows ready after leading declarations root node_at last_rows at_row outcome_at_rest chosen_step go_from go run settle settle_running settle_each begun begun_running begun_each program process_at whole start settled contents content_at numbers_from constant counts_by_value counts_for stands_in cell_clash input_clash output_clash comparisons clashes first_clash compared pairs_compared usage_fault gather gather_all fitted wrapped quotient remainder operators operate monadic_of decides dyadic_of in_array value index passed input_result intent
computes = tt
