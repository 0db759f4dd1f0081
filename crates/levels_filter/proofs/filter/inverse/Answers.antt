-- One level back of any filter: of each, what its own function leaves. Looks into no filter.
use Rattle.base_samples.proofs.IntegerLaws.{width-1, width-2, width-4}
use Rattle.filter_cdf53i.proofs.Ready as integer
use Rattle.levels_filter.specs.declared.filter.Filter.TheVariants.{Cdf53I8, Cdf53I16, Cdf53I32}
use Rattle.levels_filter.proofs.Filters.{lent_of}
use Rattle.levels_filter.proofs.filter.inverse.Goals as goal

pub inverse-requires : goal.inverse-requires
inverse-requires c = integer.ready width-1 (lent_of _ Cdf53I8 c.in-Cdf53I8.is c.requires)

pub inverse-requires-in-Cdf53I16 : goal.inverse-requires-in-Cdf53I16
inverse-requires-in-Cdf53I16 c = integer.ready width-2 (lent_of _ Cdf53I16 c.in-Cdf53I16.is c.requires)

pub inverse-requires-in-Cdf53I32 : goal.inverse-requires-in-Cdf53I32
inverse-requires-in-Cdf53I32 c = integer.ready width-4 (lent_of _ Cdf53I32 c.in-Cdf53I32.is c.requires)
