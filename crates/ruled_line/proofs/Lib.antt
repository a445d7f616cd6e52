mod Words
mod Views
mod LineMoves
mod ItemsUnder
mod InboxMoves
mod SenderLists
