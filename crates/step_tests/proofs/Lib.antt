mod ManyEntries
mod TwoPosts
