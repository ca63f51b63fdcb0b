-- Rows and columns, what is drawn of a run, what roles know at its events, the words of events,
-- what stands round them, the chart, and the laws.
pub mod Place
pub mod Strokes
pub mod Drawing
pub mod Knowledge
pub mod Words
pub mod Labels
pub mod EventTable
pub mod Frame
pub mod Foot
pub mod Chart
pub mod Laws
