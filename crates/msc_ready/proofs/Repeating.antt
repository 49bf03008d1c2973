-- Several rounds of a chart some of whose instances are ready.
pub mod UnrolledCharts
pub mod Moving
pub mod Sticking
pub mod Finishing
pub mod Laws
