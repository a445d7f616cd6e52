mod ReplyMoves
