pub mod LinesLaid
