mod Words
pub mod HeldClients
mod StrangerLaws
pub mod ServedLaws
