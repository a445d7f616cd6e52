mod TwoOffers
