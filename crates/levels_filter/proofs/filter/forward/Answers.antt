-- One level forward of any filter: of each, what its own function leaves. Looks into no filter.
use Rattle.base_samples.proofs.IntegerLaws.{width-1, width-2, width-4}
use Rattle.filter_cdf53i.proofs.Ready as integer
use Rattle.levels_filter.specs.declared.filter.Filter.TheVariants.{Cdf53I8, Cdf53I16, Cdf53I32}
use Rattle.levels_filter.proofs.Filters.{lent_of}
use Rattle.levels_filter.proofs.filter.forward.Goals as goal

pub forward-requires : goal.forward-requires
forward-requires c = integer.ready width-1 (lent_of _ Cdf53I8 c.in-Cdf53I8.is c.requires)

pub forward-requires-in-Cdf53I16 : goal.forward-requires-in-Cdf53I16
forward-requires-in-Cdf53I16 c = integer.ready width-2 (lent_of _ Cdf53I16 c.in-Cdf53I16.is c.requires)

pub forward-requires-in-Cdf53I32 : goal.forward-requires-in-Cdf53I32
forward-requires-in-Cdf53I32 c = integer.ready width-4 (lent_of _ Cdf53I32 c.in-Cdf53I32.is c.requires)
